-- Bytes in hexadecimal digits.
use Rattle.std.proofs.Common.{◌≡◌, ℕ, ◌+◌, ◌-◌, ◌<◌, ◌≤◌, List, [], ◌∷◌, ◌++◌, length, take, drop, get_or, flat_map, append_assoc, refl}
use Rattle.std.proofs.Common.{sym, ap, ◌∙◌, codes, arith, add-one, drop-cons}
use Rattle.std.proofs.Math.Seq.{take-length}
use Rattle.meta_table_text.specs.GroupItems.{hex_text, bytes_text}

-- a byte after a comma and a space
abbrev pub comma_hex : ℕ → List ℕ
comma_hex byte = codes ", " ++ hex_text byte

pub no_bytes : (bytes : List ℕ) → length bytes < 1 → bytes_text bytes ≡ []
no_bytes [] few = refl
no_bytes (b ∷ bs) few = absurd (omega arith)

-- the first byte, and then the others, each after a comma and a space
pub bytes_written : (bytes none first : List ℕ) → 1 ≤ length bytes → none ≡ []
    → first ≡ none ++ hex_text (get_or bytes 0 0) → first ++ flat_map comma_hex (take (length bytes - 1) (drop 1 bytes)) ≡ bytes_text bytes
bytes_written [] none first some empty is = absurd (omega arith)
bytes_written (b ∷ bs) none first some empty is =
    let rest : List ℕ → List ℕ = λ xs. flat_map comma_hex xs in
    let count : length (b ∷ bs) - 1 ≡ length bs = omega arith in
    ap (λ t. t ++ rest (take (length (b ∷ bs) - 1) bs)) (is ∙ ap (λ t. t ++ hex_text b) empty)
    ∙ ap (λ xs. hex_text b ++ rest xs) (ap (λ n. take n bs) count ∙ take-length bs)

-- one more of them
pub byte_more : (f : ℕ → List ℕ) (xs : List ℕ) (i : ℕ) (start out new : List ℕ) → i < length xs
    → new ≡ out ++ f (get_or xs i 0) → out ++ flat_map f (drop i xs) ≡ start → new ++ flat_map f (drop (i + 1) xs) ≡ start
byte_more f xs i start out new inside added before =
    ap (λ o. o ++ flat_map f (drop (i + 1) xs)) added
    ∙ append_assoc out (f (get_or xs i 0)) (flat_map f (drop (i + 1) xs))
    ∙ ap (λ ys. out ++ flat_map f ys) (ap (λ k. get_or xs i 0 ∷ drop k xs) (add-one i) ∙ sym (drop-cons xs i 0 inside))
    ∙ before
