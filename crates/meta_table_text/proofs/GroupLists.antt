-- Texts that are written part by part, and what is left of them.
use Rattle.std.proofs.Common.{◌≡◌, ℕ, ◌≤◌, true, false, cond, List, [], ◌∷◌, ◌++◌, append-nil, length, map, drop, flat_map}
use Rattle.std.proofs.Common.{Bor, refl, sym, ap, ◌∙◌, codes}
use Rattle.std.specs.List.{join_by}
use Rattle.std.proofs.lemmas.Bool.{cond-true, cond-false}
use Rattle.std.proofs.lemmas.List.Folds.{flat_map-map}
use Rattle.std.proofs.lemmas.Option.{slice_get_past}
use Rattle.meta_lists.proofs.Places.{drop_past}
use Rattle.meta_setting_tables.specs.declared.descriptor.Detail.{Detail}
use Rattle.meta_setting_tables.specs.declared.descriptor.Detail.TheVariants.{Bool as ABool, Enum as AnEnum, Num as ANum, Preset}
use Rattle.meta_setting_tables.specs.declared.descriptor.Descriptor.{Descriptor}
use Rattle.meta_table_text.specs.GroupItems.{texts_with_commas}
use Rattle.meta_setting_tables.specs.WellFormed.{is_preset}
use Rattle.meta_table_text.specs.GroupText.{presets_in}

-- nothing is left after the end
pub none_left : {X : Type 0} (xs : List X) (i : ℕ) → length xs ≤ i → drop i xs ≡ []
none_left xs i past = drop_past xs i (slice_get_past xs i past)

-- names that are joined are parted by commas
pub names_joined : (names : List (Bor (List ℕ))) → join_by (λ (n : Bor (List ℕ)). n.now) (codes ", ") names
    ≡ texts_with_commas (map (λ (n : Bor (List ℕ)). n.now) names)
names_joined [] = refl
names_joined (name ∷ names) = ap (λ t. name.now ++ t) (sym (flat_map-map (λ n. codes ", " ++ n) (λ (n : Bor (List ℕ)). n.now) names))

-- ---- presets among entries

module _ (text : Descriptor → List ℕ) (d : Descriptor) where
  -- the lines of an entry stand before those of the entries after it
  pub entry_written : (rest : List Descriptor) → flat_map text (presets_in (d ∷ rest))
      ≡ flat_map text (presets_in (d ∷ [])) ++ flat_map text (presets_in rest)
  entry_written rest = elim (is_preset d.detail) as (λ b. flat_map text (cond b (d ∷ presets_in rest) (presets_in rest))
      ≡ flat_map text (cond b (d ∷ []) []) ++ flat_map text (presets_in rest)) [
        | true ↦ ap (λ t. t ++ flat_map text (presets_in rest)) (sym (append-nil (text d)))
        | false ↦ refl
      ]

  -- a preset has its lines
  pub preset_written : d.detail ≡ Preset → flat_map text (presets_in (d ∷ [])) ≡ text d
  preset_written is = ap (flat_map text) (cond-true (is_preset d.detail) (d ∷ []) [] (ap is_preset is)) ∙ append-nil (text d)

  -- a setting has none
  pub setting_written : (d.detail ≡ Preset → ⊥) → flat_map text (presets_in (d ∷ [])) ≡ []
  setting_written other = ap (flat_map text) (cond-false (is_preset d.detail) (d ∷ []) [] (none d.detail other))
    where
      none : (detail : Detail) → (detail ≡ Preset → ⊥) → is_preset detail ≡ false
      none (ABool bit) n = refl
      none (AnEnum last place) n = refl
      none ANum n = refl
      none Preset n = absurd (n refl)
