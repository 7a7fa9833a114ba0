-- A byte in eight binary digits.
use Rattle.std.proofs.Common.{◌≡◌, ℕ, zero, suc, ◌+◌, ◌-◌, ◌*◌, ◌^◌, ◌/◌, ◌%◌, ◌<◌, ◌≤◌, ◌==◌, cond, Bool, true, false, List, [], ◌∷◌, ◌++◌}
use Rattle.std.proofs.Common.{length, replicate, refl, sym, ap, ◌∙◌, eq-eqb, eqb-true, arith}
use Rattle.std.proofs.lemmas.Bool.{false≢true}
use Rattle.std.specs.Fmt.{digits, digits_onto, digit_glyph, padded_integral, char_count, format_spec}
use mathlib.Core.List.{append-nil}
use Rattle.meta_table_text.specs.GroupItems.{binary_text}

-- the lowest binary digits of n, the lowest last, and then the rest
abbrev onto : ℕ → ℕ → List ℕ → List ℕ
onto zero n rest = rest
onto (suc width) n rest = onto width (n / 2) (digit_glyph false (n % 2) ∷ rest)

-- how many numbers have this count of binary digits
abbrev most : ℕ → ℕ
most zero = 1
most (suc width) = 2 * most width

zero_last : (width : ℕ) (rest : List ℕ) → replicate width 48 ++ 48 ∷ rest ≡ 48 ∷ (replicate width 48 ++ rest)
zero_last zero rest = refl
zero_last (suc width) rest = ap (λ t. 48 ∷ t) (zero_last width rest)

onto_zero : (width : ℕ) (rest : List ℕ) → onto width 0 rest ≡ replicate width 48 ++ rest
onto_zero zero rest = refl
onto_zero (suc width) rest = onto_zero width (48 ∷ rest) ∙ zero_last width rest

wide : (width n : ℕ) → n < most (suc width) → (n / 2 ≡ 0 → ⊥) → 0 < width
wide zero n small some = absurd (some (omega (arith, small)))
wide (suc width) n small some = omega arith

half : (width n : ℕ) → n < most (suc width) → n / 2 < most width
half width n small = let below : n < 2 * most width = small in omega (arith, below)

-- the digits of n with zeros in front are digits of n of this width
padded : (fuel width n : ℕ) (rest : List ℕ) → 0 < width → width ≤ fuel → n < most width
    → replicate (width + length rest - length (digits_onto fuel 2 false n rest)) 48 ++ digits_onto fuel 2 false n rest ≡ onto width n rest
padded zero width n rest some fits small = absurd (omega (arith, some, fits))
padded (suc fuel) zero n rest some fits small = absurd (omega (arith, some))
padded (suc fuel) (suc width) n rest some fits small =
    go (n / 2 == 0) refl (λ wider. padded fuel width (n / 2) (digit_glyph false (n % 2) ∷ rest) wider (omega (arith, fits))
    (half width n small))
  where
    go : (b : Bool) → (n / 2 == 0) ≡ b
        → (0 < width → replicate (width + length (digit_glyph false (n % 2) ∷ rest) - length
        (digits_onto fuel 2 false (n / 2) (digit_glyph false (n % 2) ∷ rest))) 48
        ++ digits_onto fuel 2 false (n / 2) (digit_glyph false (n % 2) ∷ rest) ≡ onto width (n / 2) (digit_glyph false (n % 2) ∷ rest))
        → replicate (suc width + length rest - length (cond b (digit_glyph false (n % 2) ∷ rest)
        (digits_onto fuel 2 false (n / 2) (digit_glyph false (n % 2) ∷ rest)))) 48
        ++ cond b (digit_glyph false (n % 2) ∷ rest) (digits_onto fuel 2 false (n / 2) (digit_glyph false (n % 2) ∷ rest))
        ≡ onto width (n / 2) (digit_glyph false (n % 2) ∷ rest)
    go true e more =
        let none : n / 2 ≡ 0 = eqb-true (n / 2) 0 e in
        let left : suc width + length rest - suc (length rest) ≡ width = omega arith in
        ap (λ m. replicate m 48 ++ digit_glyph false (n % 2) ∷ rest) left ∙ sym (onto_zero width (digit_glyph false (n % 2) ∷ rest))
        ∙ ap (λ m. onto width m (digit_glyph false (n % 2) ∷ rest)) (sym none)
    go false e more =
        let ds = digits_onto fuel 2 false (n / 2) (digit_glyph false (n % 2) ∷ rest) in
        let same : suc width + length rest ≡ width + suc (length rest) = omega arith in
        ap (λ m. replicate (m - length ds) 48 ++ ds) same ∙ more (wide width n small (λ none. false≢true (sym e ∙ eq-eqb (n / 2) 0 none)))

eight : (n : ℕ) → onto 8 n [] ≡ binary_text n
unfolding binary_text
eight n =
    let a : n / 2 / 2 ≡ n / 4 = omega arith in
    let b : n / 2 / 2 / 2 ≡ n / 8 = omega arith in
    let c : n / 2 / 2 / 2 / 2 ≡ n / 16 = omega arith in
    let d : n / 2 / 2 / 2 / 2 / 2 ≡ n / 32 = omega arith in
    let e : n / 2 / 2 / 2 / 2 / 2 / 2 ≡ n / 64 = omega arith in
    let f : n / 2 / 2 / 2 / 2 / 2 / 2 / 2 ≡ n / 128 = omega arith in
    let o : n ≡ n / 1 = omega arith in
    λ i. digit_glyph false (f i % 2)
    ∷ (digit_glyph false (e i % 2)
    ∷ (digit_glyph false (d i % 2)
    ∷ (digit_glyph false (c i % 2) ∷ (digit_glyph false (b i % 2)
    ∷ digit_glyph false (a i % 2) ∷ digit_glyph false (n / 2 % 2) ∷ digit_glyph false (o i % 2) ∷ []))))

-- what `{:08b}` writes of a byte
pub binary_byte : (n : ℕ) → n < 256 → padded_integral (format_spec 32 0 4 8 (2 ^ 64 - 1)) false [] (digits 2 false n) ≡ binary_text n
unfolding padded_integral char_count digits
binary_byte n small =
    let ds = digits_onto 64 2 false n [] in
    let exact : 8 - length ds - 0 - 0 ≡ 8 - length ds = omega arith in
    ap (λ m. replicate m 48 ++ (ds ++ [])) exact ∙ ap (λ t. replicate (8 - length ds) 48 ++ t) (append-nil ds)
    ∙ padded 64 8 n [] (omega arith) (omega arith) small ∙ eight n
