-- The presets among the entries of a group, and the size of their masks.
use Rattle.std.proofs.Common.{◌≡◌, ℕ, ◌<◌, List, [], ◌⊎◌, inl, inr, ⊎_elim, All, length, sym, ap, ◌∙◌, subst, arith}
use Rattle.std.specs.List.{flat_map}
use Rattle.std.proofs.lemmas.Bool.{cases_lt}
use Rattle.std.proofs.lemmas.List.{nil_from_length}
use Rattle.std.proofs.lemmas.List.Elements.{All-nil}
use Rattle.meta_setting_tables.specs.declared.descriptor.Descriptor.{Descriptor}
use Rattle.meta_setting_tables.specs.EntryValues.{masks_from}
use Rattle.meta_table_text.specs.GroupText.{preset_text}
use Rattle.meta_table_reader.specs.ShownGroup.{AreShownMasksOf}

-- the size that is found is that of the masks, or there are no presets
pub size_cases : (presets : List Descriptor) (size found : ℕ) → (0 < length presets → found ≡ size) → (found ≡ size) ⊎ (presets ≡ [])
size_cases presets size found is =
    ⊎_elim (λ some. inl (is some)) (λ few. inr (nil_from_length presets (omega (arith, few)))) (cases_lt 0 (length presets))

module _ (booleans presets : List Descriptor) (size found : ℕ) (masks : List ℕ) where
  -- which makes no difference
  pub sized : (found ≡ size) ⊎ (presets ≡ []) → All (AreShownMasksOf size masks) presets
      → flat_map (λ (d : Descriptor). masks_from size masks d.offset) presets ≡ masks
      → All (AreShownMasksOf found masks) presets
      × (flat_map (preset_text booleans size masks) presets ≡ flat_map (preset_text booleans found masks) presets)
      × (flat_map (λ (d : Descriptor). masks_from found masks d.offset) presets ≡ masks)
  sized (inl same) each joined = (
    subst (λ s. All (AreShownMasksOf s masks) presets) (sym same) each,
    ap (λ s. flat_map (preset_text booleans s masks) presets) (sym same),
    ap (λ s. flat_map (λ (d : Descriptor). masks_from s masks d.offset) presets) same ∙ joined,
  )
  sized (inr none) each joined = (
    subst (All (AreShownMasksOf found masks)) (sym none) (All-nil (AreShownMasksOf found masks)),
    ap (flat_map (preset_text booleans size masks)) none ∙ sym (ap (flat_map (preset_text booleans found masks)) none),
    ap (flat_map (λ (d : Descriptor). masks_from found masks d.offset)) none
        ∙ sym (ap (flat_map (λ (d : Descriptor). masks_from size masks d.offset)) none) ∙ joined,
  )
