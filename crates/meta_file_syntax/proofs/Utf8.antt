-- What is laid out of tokens is UTF-8.
use Rattle.std.proofs.Common.{◌≡◌, ◌∙◌, ℕ, suc, ◌-◌, ◌<◌, ◌≤◌, Bool, true, false, cond, List, [], ◌∷◌, ◌++◌, length, get_or, inl, inr, refl}
use Rattle.std.proofs.Common.{sym, ap, ap₂, subst, arith, append_assoc, append-nil}
use Rattle.std.specs.Prelude.{◌==◌, ◌&&◌, ◌||◌, nat_le}
use Rattle.std.specs.Str.{IsUtf8, is_utf8}
use Rattle.std.proofs.lemmas.Bool.{and_parts, or_cases, cases_lt, eqb-true, leb-true}
use Rattle.std.proofs.lemmas.Str.{IsUtf8-append, IsUtf8-nil, IsUtf8-encode, IsUtf8-from_is_utf8, is_utf8-from_IsUtf8, encode_ascii}
use Rattle.std.proofs.lemmas.Str.{inside_one}
use lib.Utf8.{scalar, scalars, encode, encodes, low_scalar}
use Rattle.meta_file_syntax.specs.Scan.{is_word_byte}
use Rattle.meta_file_syntax.specs.Encoding.{text_tokens}
use Rattle.meta_file_syntax.specs.Laid.{escaped, escaped_byte, cr_more, doc_line, AreWordBytes, CanWrite, CanWriteAll, written, then_text}
use Rattle.meta_file_syntax.specs.Laid.{laid}
use Rattle.meta_file_syntax.specs.Laid.{separator, starts, is_doc, closes, opens}
use Rattle.meta_file_syntax.specs.Keywords.{keyword_text}
use Rattle.meta_file_syntax.specs.declared.token.Token.{Token}
use Rattle.meta_file_syntax.specs.declared.token.Token.TheVariants.{Key, Word, Quoted, Sign, Doc, Stray}
use Rattle.meta_file_syntax.proofs.Laying.{key_bytes, by_sign, laid_reads}

-- ---- the test

pub is_text : (bs : List ℕ) → IsUtf8 bs → true ≡ is_utf8 bs
is_text bs h = sym (is_utf8-from_IsUtf8 bs h)

no_text_by : (bs : List ℕ) (b : Bool) → is_utf8 bs ≡ b → (IsUtf8 bs → ⊥) → false ≡ b
no_text_by bs true e none = absurd (none (IsUtf8-from_is_utf8 bs e))
no_text_by bs false e none = refl

pub no_text : (bs : List ℕ) → (IsUtf8 bs → ⊥) → false ≡ is_utf8 bs
no_text bs none = no_text_by bs (is_utf8 bs) refl none

-- ---- bytes

ascii_then : (c : ℕ) (cs : List ℕ) → c < 128 → IsUtf8 cs → IsUtf8 (c ∷ cs)
ascii_then c cs small u = IsUtf8-append (c ∷ []) cs (subst IsUtf8 (encode_ascii c small) (IsUtf8-encode c (low_scalar c (omega arith)))) u

alone : (c : ℕ) → c < 128 → IsUtf8 (c ∷ [])
alone c small = ascii_then c [] small IsUtf8-nil

line_is_small : (c : ℕ) → (c == 95) ≡ true → c < 128
line_is_small c e = let p : c ≡ 95 = eqb-true c 95 e in omega arith

least_is_small : (c : ℕ) → ((nat_le 48 c && nat_le c 57) || (c == 95)) ≡ true → c < 128
least_is_small c e = elim (or_cases (nat_le 48 c && nat_le c 57) (c == 95) e) [
  | inl digit ↦ let p : c ≤ 57 = leb-true c 57 (and_parts (nat_le 48 c) (nat_le c 57) digit).1 in omega arith
  | inr line ↦ line_is_small c line
]

upper_is_small : (c : ℕ) → ((nat_le 65 c && nat_le c 90) || ((nat_le 48 c && nat_le c 57) || (c == 95))) ≡ true → c < 128
upper_is_small c e = elim (or_cases (nat_le 65 c && nat_le c 90) ((nat_le 48 c && nat_le c 57) || (c == 95)) e) [
  | inl upper ↦ let p : c ≤ 90 = leb-true c 90 (and_parts (nat_le 65 c) (nat_le c 90) upper).1 in omega arith
  | inr least ↦ least_is_small c least
]

word_is_small : (c : ℕ) → is_word_byte c ≡ true → c < 128
word_is_small c e = elim
    (or_cases (nat_le 97 c && nat_le c 122) ((nat_le 65 c && nat_le c 90) || ((nat_le 48 c && nat_le c 57) || (c == 95))) e) [
      | inl lower ↦ let p : c ≤ 122 = leb-true c 122 (and_parts (nat_le 97 c) (nat_le c 122) lower).1 in omega arith
      | inr more ↦ upper_is_small c more
    ]

word_is_utf8 : (w : List ℕ) → AreWordBytes w → IsUtf8 w
word_is_utf8 [] h = IsUtf8-nil
word_is_utf8 (c ∷ cs) h = ascii_then c cs (word_is_small c h.0) (word_is_utf8 cs h.1)

-- ---- between quotes: what is escaped is ASCII

low_by : (c : ℕ) (p q : Bool) → c < 128 → IsUtf8 (cond p (92 ∷ 110 ∷ []) (cond q (92 ∷ c ∷ []) (c ∷ [])))
low_by c true q h = ascii_then 92 (110 ∷ []) (omega arith) (alone 110 (omega arith))
low_by c false true h = ascii_then 92 (c ∷ []) (omega arith) (alone c h)
low_by c false false h = alone c h

high_by : (c : ℕ) (p q r : Bool) → (c == 10) ≡ p → (c == 34) ≡ q → (c == 92) ≡ r → 128 ≤ c
    → cond p (92 ∷ 110 ∷ []) (cond (q || r) (92 ∷ c ∷ []) (c ∷ [])) ≡ c ∷ []
high_by c true q r e f g h = let is : c ≡ 10 = eqb-true c 10 e in absurd (omega arith)
high_by c false true r e f g h = let is : c ≡ 34 = eqb-true c 34 f in absurd (omega arith)
high_by c false false true e f g h = let is : c ≡ 92 = eqb-true c 92 g in absurd (omega arith)
high_by c false false false e f g h = refl

escaped-append : (xs ys : List ℕ) → escaped (xs ++ ys) ≡ escaped xs ++ escaped ys
escaped-append [] ys = refl
escaped-append (x ∷ xs) ys = ap (λ (l : List ℕ). escaped_byte x ++ l) (escaped-append xs ys)
    ∙ sym (append_assoc (escaped_byte x) (escaped xs) (escaped ys))

escaped_high : (xs : List ℕ) → ((k : ℕ) → k < length xs → 128 ≤ get_or xs k 0) → escaped xs ≡ xs
escaped_high [] h = refl
escaped_high (x ∷ xs) h =
    let high : 128 ≤ x = h 0 (omega arith) in
    ap₂ (λ (a b : List ℕ). a ++ b) (high_by x (x == 10) (x == 34) (x == 92) refl refl refl high)
    (escaped_high xs (λ k below. h (suc k) (omega arith)))

one_char : (c : ℕ) → scalar c ≡ true → IsUtf8 (escaped (encode c))
one_char c ok = elim (cases_lt c 128) [
  | inl small ↦ rw (encode_ascii c small, append-nil) (low_by c (c == 10) ((c == 34) || (c == 92)) small)
  | inr big ↦
      let high : (k : ℕ) → k < length (encode c) → 128 ≤ get_or (encode c) k 0 = λ k below. elim (cases_lt (get_or (encode c) k 0) 128) [
        | inl low ↦ absurd (omega (arith, inside_one c [] (encode c) k (sym (append-nil (encode c))) below low))
        | inr h ↦ h
      ] in
      subst IsUtf8 (sym (escaped_high (encode c) high)) (IsUtf8-encode c ok)
]

all_chars : (cs : List ℕ) → scalars cs ≡ true → IsUtf8 (escaped (encodes cs))
all_chars [] e = IsUtf8-nil
all_chars (c ∷ cs) e =
    let p = and_parts (scalar c) (scalars cs) e in
    subst IsUtf8 (sym (escaped-append (encode c) (encodes cs)))
    (IsUtf8-append (escaped (encode c)) (escaped (encodes cs)) (one_char c p.0) (all_chars cs p.1))

escaped_is_utf8 : (t : List ℕ) → IsUtf8 t → IsUtf8 (escaped t)
escaped_is_utf8 t u = subst (λ (l : List ℕ). IsUtf8 (escaped l)) u.1.1 (all_chars u.0 u.1.0)

-- ---- documentation

cr_by : (b : Bool) → IsUtf8 (cond b (13 ∷ []) [])
cr_by true = alone 13 (omega arith)
cr_by false = IsUtf8-nil

doc_is_utf8 : (d : List ℕ) → IsUtf8 d → IsUtf8 (doc_line d)
doc_is_utf8 [] u = IsUtf8-nil
doc_is_utf8 (c ∷ cs) u = ascii_then 32 ((c ∷ cs) ++ cr_more (c ∷ cs)) (omega arith)
    (IsUtf8-append (c ∷ cs) (cr_more (c ∷ cs)) u (cr_by (get_or (c ∷ cs) (length (c ∷ cs) - 1) 0 == 13)))

-- ---- tokens

written_is_utf8 : (t : Token) → CanWrite t → IsUtf8 (written t)
written_is_utf8 (Key k) h = word_is_utf8 (keyword_text k) (key_bytes k)
written_is_utf8 (Word w) h = subst IsUtf8 (sym h.is) (word_is_utf8 (h.first ∷ h.more) h.bytes)
written_is_utf8 (Quoted t) h = ascii_then 34 (escaped t ++ 34 ∷ []) (omega arith)
    (IsUtf8-append (escaped t) (34 ∷ []) (escaped_is_utf8 t h) (alone 34 (omega arith)))
written_is_utf8 (Sign c) h =
    by_sign (λ n. IsUtf8 (n ∷ [])) (alone 61 (omega arith)) (alone 58 (omega arith)) (alone 44 (omega arith))
    (alone 40 (omega arith)) (alone 41 (omega arith))
    (alone 91 (omega arith)) (alone 93 (omega arith)) (alone 45 (omega arith)) (alone 62 (omega arith)) (alone 46 (omega arith)) c h
written_is_utf8 (Doc d) h = ascii_then 47 (47 ∷ 47 ∷ doc_line d) (omega arith)
    (ascii_then 47 (47 ∷ doc_line d) (omega arith) (ascii_then 47 (doc_line d) (omega arith) (doc_is_utf8 d h.1)))
written_is_utf8 (Stray f) h = absurd h

gap_by : (p q : Bool) → IsUtf8 (cond p (10 ∷ []) (cond q [] (32 ∷ [])))
gap_by true q = alone 10 (omega arith)
gap_by false true = IsUtf8-nil
gap_by false false = alone 32 (omega arith)

separator_is_utf8 : (u t : Token) → IsUtf8 (separator u t)
separator_is_utf8 u t = gap_by (is_doc u || starts t) (closes t || opens u)

after_is_utf8 : (u : Token) (ts : List Token) → CanWriteAll ts → IsUtf8 (then_text u ts)
unfolding then_text
after_is_utf8 u [] all = alone 10 (omega arith)
after_is_utf8 u (t ∷ ts) all = IsUtf8-append (separator u t) (written t ++ then_text t ts) (separator_is_utf8 u t)
    (IsUtf8-append (written t) (then_text t ts) (written_is_utf8 t all.0) (after_is_utf8 t ts all.1))

laid_is_utf8 : (ts : List Token) → CanWriteAll ts → IsUtf8 (laid ts)
unfolding laid
laid_is_utf8 [] all = IsUtf8-nil
laid_is_utf8 (t ∷ ts) all = IsUtf8-append (written t) (then_text t ts) (written_is_utf8 t all.0) (after_is_utf8 t ts all.1)

pub laid_is_read : (ts : List Token) → CanWriteAll ts → text_tokens (laid ts) ≡ ts
laid_is_read ts all = rw (is_utf8-from_IsUtf8 (laid ts) (laid_is_utf8 ts all)) (laid_reads ts all)
