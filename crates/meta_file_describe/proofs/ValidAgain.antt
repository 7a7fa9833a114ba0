-- A valid group that is declared anew of its layout is valid.
use Rattle.std.proofs.Common.{◌≡◌, ℕ, ◌+◌, ◌-◌, ◌/◌, ◌<◌, List, [], ◌∷◌, ◌++◌, map, length, length-append, slice_get, Some}
use Rattle.std.proofs.Common.{IfSome, All, inl, inr, refl, sym, ap, ◌∙◌, subst, arith}
use Rattle.std.proofs.lemmas.List.{length-map, map-append}
use Rattle.std.proofs.lemmas.List.Elements.{All-nil, All-append, All-map}
use Rattle.std.proofs.lemmas.List.Filters.{length-filter_both}
use Rattle.meta_lists.proofs.Everywhere.{everywhere, at_place}
use Rattle.meta_types.specs.SharedNames.{AreDistinct}
use Rattle.meta_types.specs.declared.fault.DefinitionError.{DefinitionError}
use Rattle.meta_settings.specs.declared.index.PresetType.TheVariants.{BoolSetting}
use Rattle.meta_settings.specs.GroupDeclaration.{SettingDeclaration, PresetDeclaration, GroupDeclaration, Entry, is_bool, has_own_byte}
use Rattle.meta_settings.specs.GroupDeclaration.{booleans_among, others_among, boolean_count, byte_count}
use Rattle.meta_settings.specs.GroupDeclaration.{setting_entry, preset_entry, entries_of, names_of_entries}
use Rattle.meta_settings.specs.GroupFaults.{IsWellNamed, IsGoodEnum, IsMet, AreMet, HasTooMany, EntryRule, EntryNameRule}
use Rattle.meta_settings.specs.GroupFaults.{EntryDuplicateRule, EnumRule, PresetRule, OfGroupName, OfEntry, OfCounts}
use Rattle.meta_settings.specs.GroupFaults.{BreaksRule, IsValidGroup}
use Rattle.meta_settings.specs.Layout.{PlacedSetting, BuiltPreset}
use Rattle.meta_settings.specs.LaidOut.{laid_out, built_of}
use Rattle.meta_settings.specs.TurnedOn.{built_preset, presets_after, built_presets}
use Rattle.meta_setting_tables.specs.FoundSetting.{entry_names}
use Rattle.meta_setting_tables.proofs.BuiltNames.{built_distinct}
use Rattle.meta_file_describe.proofs.DeclaredAgain.{unplaced, preset_again, anew}
use Rattle.meta_file_describe.proofs.LaidAgain.{IsNamedPreset, settings_again, others_again, booleans_again, moved_again, setting_at}
use Rattle.meta_file_describe.proofs.LaidAgain.{settings_named, names_again, presets_below}

-- ---- counts

count_after : (earlier : List BuiltPreset) (presets : List PresetDeclaration)
    → length (presets_after earlier presets) ≡ length earlier + length presets
count_after earlier [] = omega arith
count_after earlier (p ∷ presets) =
    let rest = count_after (earlier ++ built_preset earlier p ∷ []) presets in
    let more = length-append earlier (built_preset earlier p ∷ []) in
    omega (arith, rest, more)

module _ (d : GroupDeclaration) where
  settings_counted : length (anew d).settings ≡ length d.settings
  settings_counted = ap length (settings_again d) ∙ length-append (others_among d.settings) (booleans_among d.settings)
      ∙ both
    where
      both : length (others_among d.settings) + length (booleans_among d.settings) ≡ length d.settings
      both = let counted = length-filter_both is_bool has_own_byte (λ s. refl) d.settings in omega (arith, counted)

  presets_counted : length (anew d).presets ≡ length d.presets
  presets_counted =
      let mapped = length-map (built_presets d.presets) preset_again in
      let after = count_after [] d.presets in
      omega (arith, mapped, after)

  -- there are as many of each as before
  as_many : HasTooMany (anew d) → HasTooMany d
  as_many (inl l) = inl (let b = ap length (booleans_again d) in omega (arith, l, b))
  as_many (inr (inl l)) = inr (inl (subst (λ n. 255 < n) bytes l))
    where
      bytes : byte_count (anew d) ≡ byte_count d
      bytes = λ i. length (others_again d i) + (length (booleans_again d i) + 7) / 8
  as_many (inr (inr l)) = inr (inr (let s = settings_counted in let p = presets_counted in omega (arith, l, s, p)))

-- ---- names

setting_names : (settings : List PlacedSetting)
    → map (λ (x : Entry). x.name) (map setting_entry (map unplaced settings)) ≡ map (λ (s : PlacedSetting). s.name) settings
setting_names [] = refl
setting_names (s ∷ settings) = ap (λ z. s.name ∷ z) (setting_names settings)

preset_names : (presets : List BuiltPreset)
    → map (λ (x : Entry). x.name) (map preset_entry (map preset_again presets)) ≡ map (λ (p : BuiltPreset). p.name) presets
preset_names [] = refl
preset_names (p ∷ presets) = ap (λ z. p.name ∷ z) (preset_names presets)

-- the names of the entries are those of the layout
entry_names_again : (d : GroupDeclaration) → names_of_entries (anew d) ≡ entry_names (built_of d)
entry_names_again d =
    map-append (λ (x : Entry). x.name) (map setting_entry (anew d).settings) (map preset_entry (anew d).presets)
    ∙ (λ i. setting_names (laid_out d) i ++ preset_names (built_presets d.presets) i)

-- ---- entries

-- what an entry has that breaks no rule of its own, under this count of booleans
record IsSound (booleans : ℕ) (x : Entry) : Type 0 where
  named : IsWellNamed x
  good : (IfSome x.values IsGoodEnum → ⊥) → ⊥
  met : (earlier : ℕ) → AreMet booleans earlier x.args

module _ (d : GroupDeclaration) (valid : IsValidGroup d) where
  sound_settings : All (λ (s : SettingDeclaration). IsSound (boolean_count d) (setting_entry s)) d.settings
  sound_settings = everywhere {P = λ (s : SettingDeclaration). IsSound (boolean_count d) (setting_entry s)} d.settings (λ k s at. record {
    named = at_place (λ (s : SettingDeclaration). IsWellNamed (setting_entry s)) d.settings k s (settings_named d valid) at;
    good = λ bad. valid 0 (OfEntry k EnumRule) _ (setting_entry s, setting_at d k s at, (refl, bad));
    met = λ earlier. All-nil (IsMet (boolean_count d) earlier);
  })

  sound_presets : All (λ (p : BuiltPreset). IsSound (boolean_count d) (preset_entry (preset_again p))) (built_presets d.presets)
  sound_presets = everywhere {P = λ (p : BuiltPreset). IsSound (boolean_count d) (preset_entry (preset_again p))}
      (built_presets d.presets) (λ k p at.
      let named : IsNamedPreset p = at_place IsNamedPreset (built_presets d.presets) k p (names_again d valid).presets at in
      record {
        named = record { name = named.name; description = named.description; enumerators = λ k d l. absurd (omega (arith, l)) };
        good = λ bad. bad tt;
        met = λ earlier. All-map (IsMet (boolean_count d) earlier) (λ b. BoolSetting b) p.booleans
            (at_place (λ (p : BuiltPreset). All (λ b. b < boolean_count d) p.booleans) (built_presets d.presets) k p
            (presets_below d valid) at);
      })

  sound_entries : All (IsSound (boolean_count d)) (entries_of (anew d))
  sound_entries =
      All-append (IsSound (boolean_count d)) (map setting_entry (anew d).settings) (map preset_entry (anew d).presets)
      (All-map (IsSound (boolean_count d)) setting_entry (anew d).settings
      (moved_again (λ (s : SettingDeclaration). IsSound (boolean_count d) (setting_entry s)) d sound_settings))
      (All-map (IsSound (boolean_count d)) preset_entry (anew d).presets
      (All-map (λ (p : PresetDeclaration). IsSound (boolean_count d) (preset_entry p)) preset_again (built_presets d.presets)
      sound_presets))

  distinct_again : AreDistinct (names_of_entries (anew d))
  distinct_again = subst AreDistinct (sym (entry_names_again d)) (built_distinct d valid)

  unbroken : (g k : ℕ) (x : Entry) (rule : EntryRule) (e : DefinitionError) → slice_get (entries_of (anew d)) k ≡ Some x
      → IsSound (boolean_count d) x → BreaksRule (anew d) g k x rule e → ⊥
  unbroken g k x EntryNameRule e at sound broken = broken.1 sound.named
  unbroken g k x EntryDuplicateRule e at sound (j, is, shared) = distinct_again k j shared
  unbroken g k x EnumRule e at sound broken = sound.good broken.1
  unbroken g k x PresetRule e at sound broken =
      broken.1 (subst (λ n. AreMet n (k - length (anew d).settings) x.args) (sym (ap length (booleans_again d)))
      (sound.met (k - length (anew d).settings)))

  pub valid_again : IsValidGroup (anew d)
  valid_again g OfGroupName e shown = valid g OfGroupName e shown
  valid_again g (OfEntry k rule) e (x, at, broken) =
      unbroken g k x rule e at (at_place (IsSound (boolean_count d)) (entries_of (anew d)) k x sound_entries at) broken
  valid_again g OfCounts e shown = valid g OfCounts _ (refl, as_many d shown.1)
