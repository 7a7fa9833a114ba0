use Rattle.std.proofs.Common.{◌≡◌, ℕ, ◌+◌, ◌*◌, ◌/◌, ◌%◌, ◌<◌, ◌∷◌, false, drop, ap, ◌∙◌, arith}
use Rattle.std.proofs.lemmas.List.{drop-drop}
use Rattle.std.specs.Fmt.{digit_glyph}
use Rattle.meta_table_reader.proofs.cursor.Cursor.binary.Goals as goal

-- a byte is the sum of its bits
bits : (n : ℕ) → n < 256 → 16 * (8 * (n / 128 % 2) + 4 * (n / 64 % 2) + 2 * (n / 32 % 2) + n / 16 % 2)
    + (8 * (n / 8 % 2) + 4 * (n / 4 % 2) + 2 * (n / 2 % 2) + n / 1 % 2) ≡ n
bits n small = omega (arith, small)

two : (n : ℕ) → n % 2 < 2
two n = omega arith

pub returns-clause-item : goal.returns-clause-item
returns-clause-item c = λ n rest small e.
    let bit : ℕ → ℕ = λ place. n / place % 2 in
    let low = digit_glyph false (bit 8) ∷ digit_glyph false (bit 4) ∷ digit_glyph false (bit 2) ∷ digit_glyph false (bit 1) ∷ rest in
    let before = c.pass.ensures.item (digit_glyph false (bit 128)
    ∷ digit_glyph false (bit 64) ∷ digit_glyph false (bit 32) ∷ digit_glyph false (bit 16) ∷ low) e in
    let (front, middle) = c.four_bits-high.ensures.value (bit 128) (bit 64) (bit 32) (bit 16) low (two (n / 128)) (two (n / 64))
    (two (n / 32)) (two (n / 16)) before in
    let (back, left) = c.four_bits-low.ensures.value (bit 8) (bit 4) (bit 2) (bit 1) rest (two (n / 8)) (two (n / 4)) (two (n / 2))
    (two (n / 1)) middle in
    let all = bits n small in
    (omega (arith, front, back, all), left)

pub returns-clause-left : goal.returns-clause-left
returns-clause-left c = c.four_bits-low.ensures.left ∙ ap (drop 4) c.four_bits-high.ensures.left ∙ drop-drop 4 4 c.pass.new.self
    ∙ ap (drop 8) c.pass.ensures.left
