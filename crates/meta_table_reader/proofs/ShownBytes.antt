-- Bytes in hexadecimal digits, parted by a comma and a space.
use Rattle.std.proofs.Common.{◌≡◌, ℕ, ◌+◌, ◌*◌, ◌/◌, ◌%◌, ◌<◌, ◌==◌, not, ◌&&◌, true, false, List, [], ◌∷◌, ◌++◌, All, length, drop, codes}
use Rattle.std.proofs.Common.{refl, arith}
use Rattle.std.specs.List.{flat_map}
use Rattle.std.specs.Fmt.{digit_glyph}
use Rattle.std.proofs.lemmas.Bool.Decides.{nat_tests}
use Rattle.meta_table_text.specs.GroupItems.{hex_text, bytes_text}
use Rattle.meta_table_reader.specs.Spans.{lacks}
use Rattle.meta_table_reader.proofs.Lacking.{both_lack}
use Rattle.meta_table_reader.proofs.ItemsRead.{all_first, all_after}
use Rattle.meta_table_reader.specs.ShownGroup.{IsByte}

-- the bytes after the first, each after a comma
abbrev pub comma_after : List ℕ → List ℕ
comma_after bytes = flat_map (λ byte. codes ", " ++ hex_text byte) bytes

-- without what parts them from the first, they are bytes that are parted
pub without_comma : (bytes : List ℕ) → drop 2 (comma_after bytes) ≡ bytes_text bytes
without_comma [] = refl
without_comma (byte ∷ bytes) = refl

-- each takes six bytes of the text
length_after : (bytes : List ℕ) → length (comma_after bytes) ≡ 6 * length bytes
length_after [] = refl
length_after (byte ∷ bytes) = let more = length_after bytes in omega (arith, more)

pub bytes_count : (bytes : List ℕ) → (length (bytes_text bytes) + 2) / 6 ≡ length bytes
bytes_count [] = refl
bytes_count (byte ∷ bytes) = let more = length_after bytes in omega (arith, more)

-- no bracket stands among them
glyph_other : (d : ℕ) → d < 16 → (digit_glyph false d == 93) ≡ false
glyph_other d small = grind (arith, nat_tests)

hex_lacks : (byte : ℕ) → byte < 256 → lacks 93 (hex_text byte) ≡ true
hex_lacks byte small =
    (λ i. not (glyph_other (byte / 16) (omega (arith, small)) i) && (not (glyph_other (byte % 16) (omega arith) i) && true))

after_lack : (bytes : List ℕ) → All IsByte bytes → lacks 93 (comma_after bytes) ≡ true
after_lack [] all = refl
after_lack (byte ∷ bytes) all = both_lack 93 (hex_text byte) (comma_after bytes) (hex_lacks byte (all_first IsByte byte bytes all))
    (after_lack bytes (all_after IsByte byte bytes all))

pub bytes_lack : (bytes : List ℕ) → All IsByte bytes → lacks 93 (bytes_text bytes) ≡ true
bytes_lack [] all = refl
bytes_lack (byte ∷ bytes) all = both_lack 93 (hex_text byte) (comma_after bytes) (hex_lacks byte (all_first IsByte byte bytes all))
    (after_lack bytes (all_after IsByte byte bytes all))
