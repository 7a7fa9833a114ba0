-- All the tables of a group.
use Rattle.std.proofs.Common.{◌≡◌, ⊎_elim, ℕ, ◌+◌, ◌<◌, ◌≤◌, List, ◌++◌, length, length-append, take, map, slice_get, Some, sym, ap, ◌∙◌}
use Rattle.std.proofs.Common.{subst, arith}
use Rattle.std.proofs.lemmas.List.{length-map, map-append}
use Rattle.std.proofs.lemmas.Option.{slice_get_within, same_Some}
use Rattle.meta_lists.proofs.Places.{get_left, get_right}
use Rattle.meta_settings.specs.declared.setting.SpecificSetting.TheVariants.{Bool as ABool, Enum as AnEnum}
use Rattle.meta_settings.specs.Layout.{PlacedSetting, BuiltPreset, Layout, IsSized}
use Rattle.meta_setting_tables.specs.declared.descriptor.Descriptor.{Descriptor}
use Rattle.meta_setting_tables.specs.BuiltLayout.{HaveNumbers, IsBuiltLayout}
use Rattle.meta_setting_tables.specs.EnumeratorList.{enumerators_of}
use Rattle.meta_setting_tables.specs.Descriptor.{DescribesSetting, DescribesEntry, preset_descriptor}
use Rattle.meta_setting_tables.specs.DefaultBytes.{AreDefaultsOf}
use Rattle.meta_setting_tables.specs.PresetMasks.{ArePresetMasks}
use Rattle.meta_setting_tables.specs.FoundSetting.{entry_names, laid_entry_count}
use Rattle.meta_unique.specs.NameSlots.{AreNameSlots}
use Rattle.meta_setting_tables.specs.GroupTables.{GroupContents, names_in, AreTablesOfGroup}
use Rattle.meta_setting_tables.proofs.Joining.{placed}

-- the enums are among the first 255 settings
pub enum_early : (g : Layout) → IsBuiltLayout g → IsSized g.settings g.bool_start_byte_offset g.settings_size
    → g.settings_size ≤ 255 → (k : ℕ) (s : PlacedSetting) (values : List (List ℕ)) → slice_get g.settings k ≡ Some s
    → s.specific ≡ AnEnum values → (k < 255) × HaveNumbers values
enum_early g built sized small k s values at is = (
  ⊎_elim
      (λ own. let l = own.0 in let size = sized.bytes in omega (arith, l, size))
      (λ bit. let bad : ABool bit.3.boolean ≡ AnEnum values = sym bit.3.is_boolean ∙ is in absurd (cc))
      (placed g built sized k s at),
  (let good = (built.enums k s values at is).good in record { some = good.some; few = good.few }),
)

-- what the descriptors say, those of the settings and those of the presets
pub record HaveDescriptors (g : Layout) (enumerators : List (List ℕ)) (settings presets : List Descriptor) : Type 0 where
  pub names : names_in settings ≡ map (λ (s : PlacedSetting). s.name) g.settings
  pub described : (k : ℕ) (s : PlacedSetting) (d : Descriptor) → slice_get g.settings k ≡ Some s
      → slice_get settings k ≡ Some d → DescribesSetting enumerators (take k g.settings) s d
  pub preset_names : names_in presets ≡ map (λ (p : BuiltPreset). p.name) g.presets
  pub preset_described : (k : ℕ) (p : BuiltPreset) → slice_get g.presets k ≡ Some p
      → slice_get presets k ≡ Some (preset_descriptor g.settings_size k p)

-- they are described where what was read of the group is
pub described_as : (g : Layout) (enumerators : List (List ℕ)) (settings presets : List Descriptor)
    (own : List PlacedSetting) (own_presets : List BuiltPreset) (size : ℕ) → own ≡ g.settings
    → own_presets ≡ g.presets → size ≡ g.settings_size
    → names_in settings ≡ map (λ (s : PlacedSetting). s.name) own
    → ((k : ℕ) (s : PlacedSetting) (d : Descriptor) → slice_get own k ≡ Some s → slice_get settings k ≡ Some d
    → DescribesSetting enumerators (take k own) s d)
    → names_in presets ≡ map (λ (p : BuiltPreset). p.name) own_presets
    → ((k : ℕ) (p : BuiltPreset) → slice_get own_presets k ≡ Some p
    → slice_get presets k ≡ Some (preset_descriptor size k p)) → HaveDescriptors g enumerators settings presets
described_as g enumerators settings presets own own_presets size e f s names described preset_names preset_described = record {
  names = names ∙ ap (map (λ (s : PlacedSetting). s.name)) e;
  described = λ k s d at there. subst (λ (w : List PlacedSetting). DescribesSetting enumerators (take k w) s d) e
      (described k s d (ap (λ (w : List PlacedSetting). slice_get w k) e ∙ at) there);
  preset_names = preset_names ∙ ap (map (λ (p : BuiltPreset). p.name)) f;
  preset_described = λ k p at. preset_described k p (ap (λ (w : List BuiltPreset). slice_get w k) f ∙ at)
      ∙ ap (λ n. Some (preset_descriptor n k p)) s;
}

module _ (g : Layout) (enumerators : List (List ℕ)) (settings presets ds : List Descriptor)
    (h : HaveDescriptors g enumerators settings presets) (joined : ds ≡ settings ++ presets) where
  setting_count : length settings ≡ length g.settings
  setting_count = sym (length-map settings (λ (d : Descriptor). d.name)) ∙ ap length h.names
      ∙ length-map g.settings (λ (s : PlacedSetting). s.name)

  pub names_are : names_in ds ≡ entry_names g
  names_are = ap names_in joined ∙ map-append (λ (d : Descriptor). d.name) settings presets
      ∙ ap (λ w. w ++ names_in presets) h.names ∙ ap (λ w. map (λ (s : PlacedSetting). s.name) g.settings ++ w) h.preset_names

  pub entries_are : (e : ℕ) (d : Descriptor) → slice_get ds e ≡ Some d → DescribesEntry g enumerators e d
  entries_are e d at = record {
    setting = λ s there. let l = slice_get_within g.settings e s there in let count = setting_count in
        h.described e s d there (sym (get_left settings presets e (omega (arith, l, count))) ∙ ap (λ w. slice_get w e) (sym joined) ∙ at);
    preset = λ k p place there.
        let here : slice_get ds e ≡ Some (preset_descriptor g.settings_size k p) =
        ap (slice_get ds) (place ∙ ap (λ n. n + k) (sym setting_count))
        ∙ ap (λ w. slice_get w (length settings + k)) joined ∙ get_right settings presets k ∙ h.preset_described k p there in
        same_Some d (preset_descriptor g.settings_size k p) (sym at ∙ here);
  }

-- descriptors that have the names of the entries are as many
pub named_count : (g : Layout) (ds : List Descriptor) → names_in ds ≡ entry_names g → length ds ≡ laid_entry_count g
named_count g ds names = sym (length-map ds (λ (d : Descriptor). d.name)) ∙ ap length names
    ∙ length-append (map (λ (s : PlacedSetting). s.name) g.settings) (map (λ (p : BuiltPreset). p.name) g.presets)
    ∙ ap (λ n. n + length (map (λ (p : BuiltPreset). p.name) g.presets))
    (length-map g.settings (λ (s : PlacedSetting). s.name))
    ∙ ap (λ n. length g.settings + n) (length-map g.presets (λ (p : BuiltPreset). p.name))

-- what describes the entries of a group is, with its enumerators, bytes and slots, the tables of the group
pub tables_are : (g : Layout) (t : GroupContents) → t.name ≡ g.name → names_in t.descriptors ≡ entry_names g
    → ((e : ℕ) (d : Descriptor) → slice_get t.descriptors e ≡ Some d → DescribesEntry g t.enumerators e d)
    → t.enumerators ≡ enumerators_of g.settings → AreDefaultsOf g t.defaults → ArePresetMasks g t.preset_masks
    → AreNameSlots 0 (names_in t.descriptors) t.slots → AreTablesOfGroup g t
tables_are g t name names entries are defaults masks slots = record {
  name = name;
  count = named_count g t.descriptors names;
  names = names;
  entries = entries;
  enumerators = are;
  defaults = defaults;
  masks = masks;
  slots = subst (λ w. AreNameSlots 0 w t.slots) names slots;
}
