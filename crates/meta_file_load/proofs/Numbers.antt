-- The numbers that a part may have, in words.
use Rattle.std.proofs.Common.{◌≡◌, ◌∙◌, ◌≤◌, ◌<◌, ◌+◌, ◌^◌, ◌/◌, ◌%◌, ℕ, List, [], ◌∷◌, ◌++◌, codes, refl, ap, arith}
use Rattle.std.proofs.lemmas.Fmt.{decimal_digit, decimal_step}
use Rattle.std.specs.Fmt.{decimal}
use Rattle.meta_file_syntax.specs.declared.types.Dimension.{Dimension}
use Rattle.meta_file_syntax.specs.declared.types.Dimension.TheVariants as dimensions
use Rattle.meta_file_load.specs.ItemWhy.{numbers_text}

-- a digit more
step : (n : ℕ) (front : List ℕ) → 10 ≤ n → n < 2 ^ 64 → decimal (n / 10) ≡ front → decimal n ≡ front ++ (48 + n % 10) ∷ []
step n front low high e = decimal_step n low high ∙ ap (λ (ds : List ℕ). ds ++ (48 + n % 10) ∷ []) e

d1 : decimal 1 ≡ codes "1"
d1 = decimal_digit 1 (omega arith)

d2 : decimal 2 ≡ codes "2"
d2 = decimal_digit 2 (omega arith)

d4 : decimal 4 ≡ codes "4"
d4 = decimal_digit 4 (omega arith)

d8 : decimal 8 ≡ codes "8"
d8 = decimal_digit 8 (omega arith)

d16 : decimal 16 ≡ codes "16"
d16 = step 16 (codes "1") (omega arith) (omega arith) d1

d32 : decimal 32 ≡ codes "32"
d32 = step 32 (codes "3") (omega arith) (omega arith) (decimal_digit 3 (omega arith))

d64 : decimal 64 ≡ codes "64"
d64 = step 64 (codes "6") (omega arith) (omega arith) (decimal_digit 6 (omega arith))

d128 : decimal 128 ≡ codes "128"
d128 = step 128 (codes "12") (omega arith) (omega arith) (step 12 (codes "1") (omega arith) (omega arith) d1)

d256 : decimal 256 ≡ codes "256"
d256 = step 256 (codes "25") (omega arith) (omega arith) (step 25 (codes "2") (omega arith) (omega arith) d2)

lanes_text : numbers_text dimensions.Lanes ≡ codes "1, 2, 4, 8, 16, 32, 64, 128, 256"
unfolding numbers_text
lanes_text = rw (d1, d2, d4, d8, d16, d32, d64, d128, d256) refl

dynamic_text : numbers_text dimensions.Dynamic ≡ codes "2, 4, 8, 16, 32, 64, 128, 256"
unfolding numbers_text
dynamic_text = rw (d2, d4, d8, d16, d32, d64, d128, d256) refl

ints_text : numbers_text dimensions.Ints ≡ codes "8, 16, 32, 64, 128"
unfolding numbers_text
ints_text = rw (d8, d16, d32, d64, d128) refl

floats_text : numbers_text dimensions.Floats ≡ codes "16, 32, 64, 128"
unfolding numbers_text
floats_text = rw (d16, d32, d64, d128) refl

pub of_lanes : (d : Dimension) → d ≡ dimensions.Lanes → numbers_text d ≡ codes "1, 2, 4, 8, 16, 32, 64, 128, 256"
of_lanes d e = ap numbers_text e ∙ lanes_text

pub of_dynamic : (d : Dimension) → d ≡ dimensions.Dynamic → numbers_text d ≡ codes "2, 4, 8, 16, 32, 64, 128, 256"
of_dynamic d e = ap numbers_text e ∙ dynamic_text

pub of_ints : (d : Dimension) → d ≡ dimensions.Ints → numbers_text d ≡ codes "8, 16, 32, 64, 128"
of_ints d e = ap numbers_text e ∙ ints_text

pub of_floats : (d : Dimension) → d ≡ dimensions.Floats → numbers_text d ≡ codes "16, 32, 64, 128"
of_floats d e = ap numbers_text e ∙ floats_text
