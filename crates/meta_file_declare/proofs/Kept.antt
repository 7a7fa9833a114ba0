-- What is kept of a group that grows.
use Rattle.std.proofs.Common.{◌≡◌, ℕ, List, [], ◌∷◌, ◌++◌, true, false, cond, length, map, sym, ap, ◌∙◌, subst}
use Rattle.std.specs.Global.{Vec}
use Rattle.std.specs.BTreeMap.{BTreeMap}
use Rattle.std.proofs.lemmas.List.Elements.{filter-append}
use Rattle.std.proofs.lemmas.List.{map-append, append-nil, length-map}
use Rattle.meta_settings.specs.GroupDeclaration.{SettingDeclaration, PresetDeclaration, GroupDeclaration, is_bool, booleans_among}
use Rattle.meta_settings.specs.GroupDeclaration.{boolean_count}
use Rattle.meta_settings.specs.Declaring.{with_setting, with_preset}
use Rattle.meta_file_declare.specs.FirstNumbers.{number_in, or_of, LeadsTo}
use Rattle.meta_file_declare.specs.OpenGroup.{boolean_names, preset_names}
use Rattle.meta_file_declare.proofs.FirstPlaces.{leads_more}

-- a boolean's name is one more
pub name_of_boolean : (g : GroupDeclaration) (s : SettingDeclaration) → is_bool s ≡ true
    → boolean_names (with_setting g s) ≡ boolean_names g ++ s.name ∷ []
name_of_boolean g s h =
    ap (map (λ (t : SettingDeclaration). t.name)) (filter-append is_bool g.settings (s ∷ [])
    ∙ ap (λ b. booleans_among g.settings ++ cond b (s ∷ []) []) h)
    ∙ map-append (λ (t : SettingDeclaration). t.name) (booleans_among g.settings) (s ∷ [])

-- and that of no other setting
pub name_of_other : (g : GroupDeclaration) (s : SettingDeclaration) → is_bool s ≡ false → boolean_names (with_setting g s) ≡ boolean_names g
name_of_other g s h =
    ap (map (λ (t : SettingDeclaration). t.name)) (filter-append is_bool g.settings (s ∷ [])
    ∙ ap (λ b. booleans_among g.settings ++ cond b (s ∷ []) []) h ∙ append-nil (booleans_among g.settings))

-- a preset's name is one more
pub name_of_preset : (g : GroupDeclaration) (p : PresetDeclaration) → preset_names (with_preset g p) ≡ preset_names g ++ p.name ∷ []
name_of_preset g p = map-append (λ (q : PresetDeclaration). q.name) g.presets (p ∷ [])

-- ---- the numbers of names, in a group with one entry more

module _ (g new : GroupDeclaration) (old m : BTreeMap (Vec ℕ) ℕ) (number : ℕ) where
  pub booleans_with_bool : (s : SettingDeclaration) → is_bool s ≡ true → new ≡ with_setting g s → number ≡ boolean_count g
      → LeadsTo old (boolean_names g) → ((q : List ℕ) → number_in m q ≡ or_of (number_in old q) q s.name number)
      → LeadsTo m (boolean_names new)
  booleans_with_bool s b e n h added =
      subst (LeadsTo m) (sym (ap boolean_names e ∙ name_of_boolean g s b))
      (leads_more old m (boolean_names g) s.name number h
      (n ∙ sym (length-map (booleans_among g.settings) (λ (t : SettingDeclaration). t.name))) added)

  pub presets_with_preset : (p : PresetDeclaration) → new ≡ with_preset g p → number ≡ length g.presets
      → LeadsTo old (preset_names g) → ((q : List ℕ) → number_in m q ≡ or_of (number_in old q) q p.name number)
      → LeadsTo m (preset_names new)
  presets_with_preset p e n h added =
      subst (LeadsTo m) (sym (ap preset_names e ∙ name_of_preset g p))
      (leads_more old m (preset_names g) p.name number h
      (n ∙ sym (length-map g.presets (λ (q : PresetDeclaration). q.name))) added)

module _ (g new : GroupDeclaration) (m : BTreeMap (Vec ℕ) ℕ) where
  pub booleans_with_other : (s : SettingDeclaration) → is_bool s ≡ false → new ≡ with_setting g s → LeadsTo m (boolean_names g)
      → LeadsTo m (boolean_names new)
  booleans_with_other s b e h = subst (LeadsTo m) (sym (ap boolean_names e ∙ name_of_other g s b)) h

  pub presets_with_setting : (s : SettingDeclaration) → new ≡ with_setting g s → LeadsTo m (preset_names g) → LeadsTo m (preset_names new)
  presets_with_setting s e h = subst (LeadsTo m) (sym (ap preset_names e)) h

  pub booleans_with_preset : (p : PresetDeclaration) → new ≡ with_preset g p → LeadsTo m (boolean_names g) → LeadsTo m (boolean_names new)
  booleans_with_preset p e h = subst (LeadsTo m) (sym (ap boolean_names e)) h
