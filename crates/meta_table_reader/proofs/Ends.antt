-- Where an item of a text ends.
use Rattle.std.proofs.Common.{◌≡◌, ℕ, zero, suc, ◌+◌, ◌<◌, ◌≤◌, ◌==◌, ◌^◌, ◌%◌, cond, not, ◌&&◌, Bool, true, false, ⊎_elim, List, [], ◌∷◌}
use Rattle.std.proofs.Common.{◌++◌, length, take, drop, refl, sym, ap, ◌∙◌, arith}
use Rattle.std.specs.List.{position_or_len}
use Rattle.std.proofs.Math.Seq.{take-append_seam, drop-append_seam}
use Rattle.std.proofs.lemmas.Bool.Decides.{nat_tests}
use Rattle.std.proofs.lemmas.Bool.{eqb-true, false≢true, cases_lt}
use Rattle.std.proofs.lemmas.List.{length-drop}
use Rattle.std.proofs.lemmas.List.Folds.{list_all-append}
use Rattle.std.proofs.lemmas.Fmt.{decimal_by_steps}
use Rattle.std.specs.Char.{is_ascii_digit}
use Rattle.std.specs.Fmt.{decimal}
use Rattle.meta_table_reader.specs.Spans.{lacks, begins_with, is_nothing, is_line, after_line, after_lines}

-- the first place of the byte is the one after the item
pub first_after : (stop : ℕ) (item rest : List ℕ) → lacks stop item ≡ true → begins_with stop rest ≡ true
    → position_or_len (λ c. c == stop) (item ++ rest) ≡ length item
first_after stop [] [] free stops = absurd (cc)
first_after stop [] (c ∷ cs) free stops = ap (λ b. cond (not b) (1 + position_or_len (λ c. c == stop) cs) 0) stops
first_after stop (c ∷ item) rest free stops = by_test (c == stop) free (λ free. first_after stop item rest free stops)
  where
    by_test : (b : Bool) → (not b && lacks stop item) ≡ true
        → (lacks stop item ≡ true → position_or_len (λ c. c == stop) (item ++ rest) ≡ length item)
        → cond (not b) (1 + position_or_len (λ c. c == stop) (item ++ rest)) 0 ≡ length (c ∷ item)
    by_test true free below = absurd (cc)
    by_test false free below = let e = below free in omega (arith, e)

-- what is taken up to the end of the item, and what is left after it
pub item_taken : (text item rest : List ℕ) (end : ℕ) → text ≡ item ++ rest → end ≡ length item → take end text ≡ item
item_taken text item rest end is at = (λ i. take (at i) (is i)) ∙ take-append_seam item rest

pub item_left : (text item rest : List ℕ) (end : ℕ) → text ≡ item ++ rest → end ≡ length item → drop end text ≡ rest
item_left text item rest end is at = (λ i. drop (at i) (is i)) ∙ drop-append_seam item rest

-- what isn't a digit stands in no number
other_than_digit : (stop n : ℕ) → is_ascii_digit stop ≡ false → n < 10 → (48 + n == stop) ≡ false
other_than_digit stop n other small = by_test (48 + n == stop) refl
  where
    digit : is_ascii_digit (48 + n) ≡ true
    digit = grind (arith, nat_tests)

    by_test : (b : Bool) → (48 + n == stop) ≡ b → b ≡ false
    by_test false is = refl
    by_test true is = absurd (false≢true (sym other ∙ ap is_ascii_digit (sym (eqb-true (48 + n) stop is)) ∙ digit))

digit_lacks : (stop n : ℕ) → is_ascii_digit stop ≡ false → n < 10 → lacks stop ((48 + n) ∷ []) ≡ true
digit_lacks stop n other small = ap (λ b. not b && true) (other_than_digit stop n other small)

pub number_lacks : (stop : ℕ) → is_ascii_digit stop ≡ false → (n : ℕ) → n < 2 ^ 64 → lacks stop (decimal n) ≡ true
number_lacks stop other =
    decimal_by_steps (λ n ds. lacks stop ds ≡ true)
    (λ n small. digit_lacks stop n other small)
    (λ n ds big above. list_all-append (λ c. not (c == stop)) ds ((48 + n % 10) ∷ [])
    ∙ (λ i. above i && digit_lacks stop (n % 10) other (omega arith) i))

-- what is left after a line
pub line_left : (line rest : List ℕ) → is_line line ≡ true
    → drop 1 (drop (position_or_len (λ c. c == 10) (line ++ rest)) (line ++ rest)) ≡ rest
line_left [] rest is = absurd (cc)
line_left (c ∷ cs) rest is = by_test (c == 10) is (line_left cs rest)
  where
    nothing : (cs : List ℕ) → is_nothing cs ≡ true → cs ++ rest ≡ rest
    nothing [] none = refl
    nothing (c ∷ cs) none = absurd (cc)

    by_test : (b : Bool) → cond b (is_nothing cs) (is_line cs) ≡ true
        → (is_line cs ≡ true → drop 1 (drop (position_or_len (λ c. c == 10) (cs ++ rest)) (cs ++ rest)) ≡ rest)
        → drop 1 (drop (cond (not b) (1 + position_or_len (λ c. c == 10) (cs ++ rest)) 0) (c ∷ (cs ++ rest))) ≡ rest
    by_test true is below = nothing cs is
    by_test false is below =
        let next : 1 + position_or_len (λ c. c == 10) (cs ++ rest) ≡ suc (position_or_len (λ c. c == 10) (cs ++ rest)) = omega arith
        in ap (λ n. drop 1 (drop n (c ∷ (cs ++ rest)))) next ∙ below is

-- a line has a byte
pub line_some : (line : List ℕ) → is_line line ≡ true → 1 ≤ length line
line_some [] is = absurd (cc)
line_some (c ∷ cs) is = omega arith

-- after one more line
pub one_line_more : (count : ℕ) (text : List ℕ) → after_lines (suc count) text ≡ after_line (after_lines count text)
one_line_more zero text = refl
one_line_more (suc count) text = one_line_more count (after_line text)

-- after as many lines as it has bytes, a text has nothing left
none_after : (count : ℕ) (text : List ℕ) → length text ≤ count → after_lines count text ≡ []
none_after zero [] few = refl
none_after zero (c ∷ cs) few = absurd (omega (arith, few))
none_after (suc count) text few =
    let end = position_or_len (λ c. c == 10) text in
    let first = length-drop end text in
    let after = length-drop 1 (drop end text) in
    none_after count (after_line text) (omega (arith, few, first, after))

-- and so after any further lines
pub lines_passed : (count passed : ℕ) (text : List ℕ) → passed ≤ count → (passed < count → length text ≤ passed)
    → after_lines passed text ≡ after_lines count text
lines_passed count passed text most few = ⊎_elim
    (λ l. let past : length text ≤ passed = few l in
    none_after passed text past ∙ sym (none_after count text (omega (arith, past, most))))
    (λ g. let same : passed ≡ count = omega (arith, g, most) in ap (λ n. after_lines n text) same)
    (cases_lt passed count)
