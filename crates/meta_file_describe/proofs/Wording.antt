-- Bytes that are words, and lines that are taken apart.
use Rattle.std.proofs.Common.{◌≡◌, ◌∙◌, ℕ, ◌+◌, ◌<◌, ◌≤◌, ◌≢◌, Bool, true, false, List, [], ◌∷◌, ◌++◌, length, drop, get_or}
use Rattle.std.proofs.Common.{refl, ap, sym, append_assoc, add-one, drop-cons, eq-eqb, ne_eqb, arith}
use Rattle.std.proofs.Math.ListN.{drop_of_length-le}
use Rattle.std.proofs.lemmas.Bool.{eqb-true}
use Rattle.std.proofs.lemmas.List.{append-nil}
use Rattle.std.specs.Prelude.{None, ◌&&◌, ◌==◌, if◌then◌else◌}
use Rattle.std.specs.List.{list_all}
use Rattle.meta_file_syntax.specs.Scan.{is_word_byte}
use Rattle.meta_file_syntax.specs.Keywords.{keyword_of}
use Rattle.meta_file_syntax.specs.Laid.{AreWordBytes, IsWord}
use Rattle.meta_file_syntax.specs.declared.name.Name.TheVariants as names
use Rattle.meta_file_syntax.specs.Named.{name_bytes, doc_text, more_lines}
use Rattle.meta_file_describe.specs.Wording.{are_word_bytes, is_plain_word, name_for, with_first, lines_between, doc_lines}

both : (a b : Bool) → (a && b) ≡ true → (a ≡ true) × (b ≡ true)
both true true h = (refl, refl)
both true false h = cc
both false true h = cc
both false false h = cc

all_word_bytes : (w : List ℕ) → list_all is_word_byte w ≡ true → AreWordBytes w
all_word_bytes [] h = tt
all_word_bytes (c ∷ cs) h =
    let p = both (is_word_byte c) (list_all is_word_byte cs) h in
    (p.0, all_word_bytes cs p.1)

pub is_word : (w : List ℕ) → are_word_bytes w ≡ true → keyword_of w ≡ None → IsWord w
is_word [] h free = cc
is_word (c ∷ cs) h free = record {
  first = c;
  more = cs;
  is = refl;
  bytes = all_word_bytes (c ∷ cs) (both _ (list_all is_word_byte (c ∷ cs)) h).1;
  free = free;
}

-- ---- names

named_by : (b : Bool) (w : List ℕ) → name_bytes (if b then names.Plain w else names.Quoted w) ≡ w
named_by true w = refl
named_by false w = refl

-- the name that bytes are tells these bytes
pub name_said : (w : List ℕ) → name_bytes (name_for w) ≡ w
name_said w = named_by (is_plain_word w) w

-- ---- the lines of a text

-- the lines, where what has begun stands in front of the first
abbrev pub joined : List ℕ → List (List ℕ) → List (List ℕ)
joined line [] = line ∷ []
joined line (l ∷ ls) = (line ++ l) ∷ ls

joined_first : (c : ℕ) (lines : List (List ℕ)) → joined [] (with_first c lines) ≡ with_first c lines
joined_first c [] = refl
joined_first c (l ∷ ls) = refl

none_begun_by : (b : Bool) (c : ℕ) (lines : List (List ℕ))
    → joined [] (if b then [] ∷ lines else with_first c lines) ≡ (if b then [] ∷ lines else with_first c lines)
none_begun_by true c lines = refl
none_begun_by false c lines = joined_first c lines

-- where nothing has begun, nothing stands in front of the lines
none_begun : (text : List ℕ) → joined [] (lines_between text) ≡ lines_between text
none_begun [] = refl
none_begun (c ∷ cs) = none_begun_by (c == 10) c (lines_between cs)

more_said : (lines : List (List ℕ)) → joined [] lines ≡ lines → more_lines lines ≡ 10 ∷ doc_text lines
more_said [] some = absurd cc
more_said (l ∷ ls) some = refl

first_said : (c : ℕ) (lines : List (List ℕ)) → doc_text (with_first c lines) ≡ c ∷ doc_text lines
first_said c [] = refl
first_said c (l ∷ ls) = refl

lines_said_by : (b : Bool) (c : ℕ) (cs : List ℕ) → (c == 10) ≡ b → doc_text (lines_between cs) ≡ cs
    → doc_text (if b then [] ∷ lines_between cs else with_first c (lines_between cs)) ≡ c ∷ cs
lines_said_by true c cs is below =
    let ten : c ≡ 10 = eqb-true c 10 is in
    more_said (lines_between cs) (none_begun cs) ∙ ap (λ (x : List ℕ). 10 ∷ x) below ∙ ap (λ (x : ℕ). x ∷ cs) (sym ten)
lines_said_by false c cs is below = first_said c (lines_between cs) ∙ ap (λ (x : List ℕ). c ∷ x) below

lines_said : (text : List ℕ) → doc_text (lines_between text) ≡ text
lines_said [] = refl
lines_said (c ∷ cs) = lines_said_by (c == 10) c cs refl (lines_said cs)

-- the lines of a documentation tell its text
pub doc_said : (text : List ℕ) → doc_text (doc_lines text) ≡ text
doc_said [] = refl
doc_said (c ∷ cs) = lines_said (c ∷ cs)

-- where nothing is to come, what has begun is the last line
last_line : (lines : List (List ℕ)) (line : List ℕ) → lines ++ joined line (lines_between []) ≡ lines ++ line ∷ []
last_line lines line = ap (λ (x : List ℕ). lines ++ x ∷ []) (append-nil line)

ends_by : (b : Bool) (lines : List (List ℕ)) (line : List ℕ) (c : ℕ) (rest : List ℕ) → b ≡ true
    → (lines ++ line ∷ []) ++ joined [] (lines_between rest)
    ≡ lines ++ joined line (if b then [] ∷ lines_between rest else with_first c (lines_between rest))
ends_by true lines line c rest is =
    ap (λ (x : List (List ℕ)). (lines ++ line ∷ []) ++ x) (none_begun rest)
    ∙ append_assoc lines (line ∷ []) (lines_between rest)
    ∙ ap (λ (x : List ℕ). lines ++ (x ∷ lines_between rest)) (sym (append-nil line))
ends_by false lines line c rest is = absurd cc

-- a line end ends the line that has begun
line_ends : (lines : List (List ℕ)) (line : List ℕ) (c : ℕ) (rest : List ℕ) → (c == 10) ≡ true
    → (lines ++ line ∷ []) ++ joined [] (lines_between rest) ≡ lines ++ joined line (lines_between (c ∷ rest))
line_ends lines line c rest is = ends_by (c == 10) lines line c rest is

joined_more : (line : List ℕ) (c : ℕ) (lines : List (List ℕ)) → joined (line ++ c ∷ []) lines ≡ joined line (with_first c lines)
joined_more line c [] = refl
joined_more line c (l ∷ ls) = ap (λ (x : List ℕ). x ∷ ls) (append_assoc line (c ∷ []) l)

goes_on_by : (b : Bool) (lines : List (List ℕ)) (line : List ℕ) (c : ℕ) (rest : List ℕ) → b ≡ false
    → lines ++ joined (line ++ c ∷ []) (lines_between rest)
    ≡ lines ++ joined line (if b then [] ∷ lines_between rest else with_first c (lines_between rest))
goes_on_by true lines line c rest is = absurd cc
goes_on_by false lines line c rest is = ap (λ (x : List (List ℕ)). lines ++ x) (joined_more line c (lines_between rest))

-- another byte goes on with the line that has begun
line_goes_on : (lines : List (List ℕ)) (line : List ℕ) (c : ℕ) (rest : List ℕ) → (c == 10) ≡ false
    → lines ++ joined (line ++ c ∷ []) (lines_between rest) ≡ lines ++ joined line (lines_between (c ∷ rest))
line_goes_on lines line c rest is = goes_on_by (c == 10) lines line c rest is

-- the byte after the first n, and those after it
rest_at : (text : List ℕ) (n : ℕ) → n < length text → drop n text ≡ get_or text n 0 ∷ drop (n + 1) text
rest_at text n lt = rw (add-one, drop-cons text n 0) refl

-- the lines, and the one that has begun in front of the bytes after the first n, are the lines of the text
abbrev pub AreLinesSoFar : List ℕ → ℕ → List (List ℕ) → List ℕ → Type 0
AreLinesSoFar text n lines line = lines ++ joined line (lines_between (drop n text)) ≡ lines_between text

-- no line is done, and none has begun
pub no_line_so_far : (text : List ℕ) → AreLinesSoFar text 0 [] []
no_line_so_far text = none_begun text

-- the next byte is a line end
pub one_line_more : (text : List ℕ) (n : ℕ) (lines : List (List ℕ)) (line : List ℕ) → n < length text → get_or text n 0 ≡ 10
    → AreLinesSoFar text n lines line → AreLinesSoFar text (n + 1) (lines ++ line ∷ []) []
one_line_more text n lines line lt is so =
    line_ends lines line (get_or text n 0) (drop (n + 1) text) (eq-eqb (get_or text n 0) 10 is)
    ∙ ap (λ (x : List ℕ). lines ++ joined line (lines_between x)) (sym (rest_at text n lt))
    ∙ so

-- the next byte is another one
pub one_byte_more : (text : List ℕ) (n : ℕ) (lines : List (List ℕ)) (line : List ℕ) → n < length text → get_or text n 0 ≢ 10
    → AreLinesSoFar text n lines line → AreLinesSoFar text (n + 1) lines (line ++ get_or text n 0 ∷ [])
one_byte_more text n lines line lt other so =
    line_goes_on lines line (get_or text n 0) (drop (n + 1) text) (ne_eqb (get_or text n 0) 10 other)
    ∙ ap (λ (x : List ℕ). lines ++ joined line (lines_between x)) (sym (rest_at text n lt))
    ∙ so

some_doc_lines : (text : List ℕ) → 0 < length text → lines_between text ≡ doc_lines text
some_doc_lines [] some = absurd (omega arith)
some_doc_lines (c ∷ cs) some = refl

-- after the last byte the line that has begun is the last one
pub all_lines : (text : List ℕ) (n : ℕ) (lines : List (List ℕ)) (line : List ℕ) → 0 < length text → length text ≤ n
    → AreLinesSoFar text n lines line → lines ++ line ∷ [] ≡ doc_lines text
all_lines text n lines line some past so =
    sym (last_line lines line)
    ∙ ap (λ (x : List ℕ). lines ++ joined line (lines_between x)) (sym (drop_of_length-le text {i = n} past))
    ∙ so
    ∙ some_doc_lines text some
