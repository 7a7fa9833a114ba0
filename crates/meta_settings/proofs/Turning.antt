-- What presets turn on, as a set.
use Rattle.std.proofs.Common.{◌≡◌, ◌+◌, ⊎_elim, ℕ, zero, suc, List, [], ◌∷◌, ◌++◌, length, length-append, take, slice_get, Some, Contains}
use Rattle.std.proofs.Common.{sym, ap, ◌∙◌, subst, arith}
use Rattle.std.specs.List.{flat_map}
use Rattle.std.proofs.Math.Seq.{take-append_seam}
use Rattle.std.proofs.lemmas.List.{append_assoc, append-nil}
use Rattle.std.proofs.lemmas.List.Elements.{Contains-append_left, Contains-append_right, Contains-append_cases}
use Rattle.meta_lists.proofs.Places.{get_seam}
use Rattle.meta_lists.proofs.Contained.{contains_after, contains_cases, contains_first, contains_none}
use Rattle.meta_settings.specs.declared.index.PresetType.{PresetType}
use Rattle.meta_settings.specs.GroupDeclaration.{PresetDeclaration}
use Rattle.meta_settings.specs.Layout.{BuiltPreset}
use Rattle.meta_settings.specs.TurnedOn.{meant_by, built_preset, presets_after}

-- ---- the booleans of several names

pub meant_from : (earlier : List BuiltPreset) (args : List PresetType) (b : ℕ) → Contains (flat_map (meant_by earlier) args) b
    → (a : PresetType) × Contains args a × Contains (meant_by earlier a) b
meant_from earlier [] b c = absurd (contains_none b c)
meant_from earlier (a ∷ rest) b c =
    ⊎_elim
    (λ here. (a, contains_first a rest, here))
    (λ later. let (x, at, meant) = meant_from earlier rest b later in (x, contains_after a x rest at, meant))
    (Contains-append_cases (meant_by earlier a) (flat_map (meant_by earlier) rest) b c)

pub meant_to : (earlier : List BuiltPreset) (args : List PresetType) (b : ℕ) (a : PresetType) → Contains args a
    → Contains (meant_by earlier a) b → Contains (flat_map (meant_by earlier) args) b
meant_to earlier [] b a at c = absurd (contains_none a at)
meant_to earlier (x ∷ xs) b a at c =
    ⊎_elim
    (λ same. Contains-append_left (meant_by earlier x) (flat_map (meant_by earlier) xs) b
    (subst (λ z. Contains (meant_by earlier z) b) (sym same) c))
    (λ later. Contains-append_right (meant_by earlier x) (flat_map (meant_by earlier) xs) b (meant_to earlier xs b a later c))
    (contains_cases x a xs at)

-- ---- the presets in order

-- the presets that were built stay in front
earlier_stay : (earlier : List BuiltPreset) (ps : List PresetDeclaration)
    → (more : List BuiltPreset) × (presets_after earlier ps ≡ earlier ++ more)
earlier_stay earlier [] = ([], sym (append-nil earlier))
earlier_stay earlier (p ∷ ps) =
    let (more, e) = earlier_stay (earlier ++ built_preset earlier p ∷ []) ps in
    (built_preset earlier p ∷ more, e ∙ append_assoc earlier (built_preset earlier p ∷ []) more)

-- preset k of those that are built turns on what its names stand for by those before it
pub built_at : (earlier : List BuiltPreset) (ps : List PresetDeclaration) (k : ℕ) (p : PresetDeclaration) → slice_get ps k ≡ Some p
    → slice_get (presets_after earlier ps) (length earlier + k)
    ≡ Some (built_preset (take (length earlier + k) (presets_after earlier ps)) p)
built_at earlier [] k p at = absurd (cc)
built_at earlier (x ∷ ps) zero p at =
    let same : x ≡ p = cc in
    let (more, e) = earlier_stay (earlier ++ built_preset earlier x ∷ []) ps in
    let whole : presets_after earlier (x ∷ ps) ≡ earlier ++ (built_preset earlier x ∷ more) = e
    ∙ append_assoc earlier (built_preset earlier x ∷ []) more in
    let place : length earlier + 0 ≡ length earlier = omega arith in
    rw (whole, place, take-append_seam earlier (built_preset earlier x ∷ more)) (get_seam earlier (built_preset earlier x) more
    ∙ ap (λ z. Some (built_preset earlier z)) same)
built_at earlier (x ∷ ps) (suc k) p at =
    let place : length (earlier ++ built_preset earlier x ∷ []) + k ≡ length earlier + suc k =
    omega (arith, length-append earlier (built_preset earlier x ∷ [])) in
    subst (λ n. slice_get (presets_after earlier (x ∷ ps)) n ≡ Some (built_preset (take n (presets_after earlier (x ∷ ps))) p)) place
    (built_at (earlier ++ built_preset earlier x ∷ []) ps k p at)
