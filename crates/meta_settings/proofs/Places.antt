-- The settings by their places.
use Rattle.std.proofs.Common.{◌≡◌, ◌+◌, ◌/◌, ℕ, zero, suc, List, [], ◌∷◌, slice_get, Some, ap, ◌∙◌, subst, arith, add-zero}
use Rattle.meta_lists.proofs.Places.{get_right, get_stays}
use Rattle.meta_settings.specs.GroupDeclaration.{SettingDeclaration, GroupDeclaration, booleans_among, others_among, start_of}
use Rattle.meta_settings.specs.LaidOut.{placed_at, in_bytes, in_bits, laid_out}
use Rattle.meta_settings.proofs.Placing.{length-in_bytes}

in_bytes_at : (byte : ℕ) (xs : List SettingDeclaration) (j : ℕ) (s : SettingDeclaration) → slice_get xs j ≡ Some s
    → slice_get (in_bytes byte xs) j ≡ Some (placed_at s (byte + j) 0)
in_bytes_at byte [] j s at = absurd (cc)
in_bytes_at byte (x ∷ xs) zero s at = let same : x ≡ s = cc in rw add-zero (ap (λ z. Some (placed_at z byte 0)) same)
in_bytes_at byte (x ∷ xs) (suc j) s at =
    let next : (byte + 1) + j ≡ byte + suc j = omega arith in
    in_bytes_at (byte + 1) xs j s at ∙ ap (λ n. Some (placed_at s n 0)) next

in_bits_at : (start first : ℕ) (xs : List SettingDeclaration) (k : ℕ) (s : SettingDeclaration)
    → slice_get xs k ≡ Some s → slice_get (in_bits start first xs) k ≡ Some (placed_at s (start + (first + k) / 8) (first + k))
in_bits_at start first [] k s at = absurd (cc)
in_bits_at start first (x ∷ xs) zero s at =
    let same : x ≡ s = cc in rw add-zero (ap (λ z. Some (placed_at z (start + first / 8) first)) same)
in_bits_at start first (x ∷ xs) (suc k) s at =
    let next : (first + 1) + k ≡ first + suc k = omega arith in
    in_bits_at start (first + 1) xs k s at ∙ ap (λ n. Some (placed_at s (start + n / 8) n)) next

pub byte_place : (d : GroupDeclaration) (j : ℕ) (s : SettingDeclaration)
    → slice_get (others_among d.settings) j ≡ Some s → slice_get (laid_out d) j ≡ Some (placed_at s j 0)
byte_place d j s at =
    let same : 0 + j ≡ j = omega arith in
    get_stays (in_bytes 0 (others_among d.settings)) (in_bits (start_of d) 0 (booleans_among d.settings)) j _
    (in_bytes_at 0 (others_among d.settings) j s at) ∙ ap (λ n. Some (placed_at s n 0)) same

pub bit_place : (d : GroupDeclaration) (k : ℕ) (s : SettingDeclaration)
    → slice_get (booleans_among d.settings) k ≡ Some s → slice_get (laid_out d) (start_of d + k) ≡ Some (placed_at s (start_of d + k / 8) k)
bit_place d k s at =
    let same : 0 + k ≡ k = omega arith in
    subst (λ n. slice_get (laid_out d) (n + k) ≡ Some (placed_at s (start_of d + k / 8) k)) (length-in_bytes 0 (others_among d.settings))
    (get_right (in_bytes 0 (others_among d.settings)) (in_bits (start_of d) 0 (booleans_among d.settings)) k
    ∙ in_bits_at (start_of d) 0 (booleans_among d.settings) k s at ∙ ap (λ n. Some (placed_at s (start_of d + n / 8) n)) same)
