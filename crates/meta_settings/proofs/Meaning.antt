-- What the names in a preset stand for.
use Rattle.std.proofs.Common.{◌≡◌, ℕ, ◌+◌, ◌<◌, List, [], ◌∷◌, ◌++◌, length, take, slice_index_or, sym, ap, ◌∙◌}
use Rattle.std.specs.List.{flat_map}
use Rattle.std.proofs.lemmas.Grind.{flat_map-append}
use Rattle.std.proofs.lemmas.List.{take_more, append-nil}
use Rattle.meta_settings.specs.declared.index.PresetType.{PresetType}
use Rattle.meta_settings.specs.Layout.{BuiltPreset}
use Rattle.meta_settings.specs.TurnedOn.{meant_by}

-- one name more
pub meant_more : (earlier : List BuiltPreset) (args : List PresetType) (i : ℕ) (arg : PresetType) → i < length args
    → arg ≡ slice_index_or args i arg
    → flat_map (meant_by earlier) (take (i + 1) args) ≡ flat_map (meant_by earlier) (take i args) ++ meant_by earlier arg
meant_more earlier args i arg l is =
    ap (flat_map (meant_by earlier)) (take_more args i arg l ∙ ap (λ a. take i args ++ a ∷ []) (sym is))
    ∙ flat_map-append (meant_by earlier) (take i args) (arg ∷ [])
    ∙ ap (λ z. flat_map (meant_by earlier) (take i args) ++ z) (append-nil (meant_by earlier arg))
