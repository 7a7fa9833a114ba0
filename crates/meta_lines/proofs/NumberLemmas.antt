-- The number that a word writes.
use Rattle.std.proofs.Common.{◌≡◌, ℕ, zero, suc, ◌<◌, ◌^◌, ◌==◌, ◌&&◌, ◌||◌, not, cond, Bool, true, false, List, [], ◌∷◌, length, drop}
use Rattle.std.proofs.Common.{get_or, Result, Ok, Err, refl, sym, ap, ◌∙◌, subst, arith}
use Rattle.std.specs.Fmt.{decimal, digits}
use Rattle.std.specs.Result.{OkIff}
use Rattle.std.specs.Str.{IsUtf8}
use Rattle.std.specs.Str.Parse.{ParsesUnsigned, IsNumeral, digits_value, without_leading_plus}
use Rattle.std.proofs.lemmas.Bool.{eq-eqb, eqb-true, false≢true}
use Rattle.std.proofs.lemmas.Fmt.{IsAscii-decimal, decimal-digits_value, decimal_injective, first_decimal}
use Rattle.std.proofs.lemmas.Str.{IsUtf8-from_ascii}
use Rattle.std.proofs.lemmas.Str.Parse.{numerals_by_value, tells_digits}
use Rattle.meta_lines.specs.Number.{is_plain}

-- what writes a number is text
pub not_text : (n : ℕ) (word : List ℕ) → n < 2 ^ 64 → word ≡ decimal n → (IsUtf8 word → ⊥) → ⊥
not_text n word few e none = none (subst IsUtf8 (sym e) (IsUtf8-from_ascii (decimal n) (IsAscii-decimal n few)))

-- a result has one number, and then no fault
pub no_fault : {E : Type 0} (r : Result ℕ E) (n : ℕ) (fault : E) → r ≡ Ok n → r ≡ Err fault → ⊥
no_fault r n fault one other = absurd (cc)

-- ---- with no sign and no zero before it

parts : (a b c : Bool) → (not a && (not b || c)) ≡ true → (a ≡ false) × (b ≡ true → c ≡ true)
parts false false c e = (refl, λ t. absurd (false≢true t))
parts false true c e = (refl, λ t. e)
parts true b c e = absurd (false≢true e)

-- what was read
read_ok : {E : Type 0} (P : Type 0) (v : ℕ) (r : Result ℕ E) (n : ℕ) → r ≡ Ok n → OkIff r P v → P × (n ≡ v)
read_ok P v (Ok x) n is h = let same : x ≡ n = cc in (h.0, sym same ∙ h.1)
read_ok P v (Err x) n is h = absurd (cc)

-- a plain word of digits writes its value
pub written : {E : Type 0} (word : List ℕ) (r : Result ℕ E) (n : ℕ) → r ≡ Ok n → ParsesUnsigned 64 10 word r
    → is_plain word ≡ true → word ≡ decimal n
written word r n is h plain =
    let first = parts (get_or word 0 0 == 43) (get_or word 0 0 == 48) (length word == 1) plain in
    let bare : without_leading_plus word ≡ word = ap (λ b. drop (cond b 1 0) word) first.0 in
    let read = read_ok (IsNumeral 10 (without_leading_plus word)
    × (digits_value 10 (without_leading_plus word) < 2 ^ 64)) (digits_value 10 (without_leading_plus word)) r n is h in
    let own = subst (λ w. (IsNumeral 10 w × (digits_value 10 w < 2 ^ 64)) × (n ≡ digits_value 10 w)) bare read in
    let alone : get_or word 0 0 ≡ 48 → length word ≡ 1 = λ z. eqb-true (length word) 1 (first.1 (eq-eqb (get_or word 0 0) 48 z)) in
    let spelled = decimal-digits_value (numerals_by_value _ tells_digits) word own.0.0.1 own.0.0.0 alone own.0.1 in
    sym spelled ∙ ap decimal (sym own.1)

other_byte : (c d : ℕ) → d < c → (c == d) ≡ false
other_byte c d l = by_test (c == d) refl
  where
    by_test : (b : Bool) → (c == d) ≡ b → b ≡ false
    by_test false is = refl
    by_test true is = let same = eqb-true c d is in absurd (omega (arith, same, l))

decimal_zero : decimal 0 ≡ 48 ∷ []
unfolding digits
decimal_zero = refl

-- what writes a number is plain
pub decimal_plain : (n : ℕ) → n < 2 ^ 64 → is_plain (decimal n) ≡ true
decimal_plain zero h = ap is_plain decimal_zero
decimal_plain (suc n) h =
    let first : 48 < get_or (decimal (suc n)) 0 0 = first_decimal (suc n) (omega arith) h in
    (λ i. not (other_byte (get_or (decimal (suc n)) 0 0) 43 (omega (arith, first)) i)
    && (not (other_byte (get_or (decimal (suc n)) 0 0) 48 first i) || (length (decimal (suc n)) == 1)))

-- so a word that isn't writes none
pub not_plain : (n : ℕ) (word : List ℕ) → n < 2 ^ 64 → word ≡ decimal n → is_plain word ≡ false → ⊥
not_plain n word few e other = false≢true (sym other ∙ ap is_plain e ∙ decimal_plain n few)

-- nor does it write a number that is larger than the one that it writes
pub one_value : (m n : ℕ) (word : List ℕ) → m < 2 ^ 64 → n < 2 ^ 64 → word ≡ decimal m → word ≡ decimal n → m ≡ n
one_value m n word small few e is = decimal_injective m n small few (sym e ∙ is)
