-- The lines that tables give are those that the layout of the group means.
use Rattle.std.proofs.Common.{◌≡◌, ℕ, ◌+◌, ◌-◌, ◌==◌, inl, inr, List, [], length, map, take, drop, slice_get, get_or, Some, sym, ap, ap₂}
use Rattle.std.proofs.Common.{◌∙◌, arith}
use Rattle.std.specs.Option.{option_map}
use Rattle.std.specs.Int.{bit_at}
use Rattle.std.proofs.lemmas.Bool.{cases_lt}
use Rattle.std.proofs.lemmas.List.{length-map}
use Rattle.std.proofs.lemmas.Option.{slice_get-map, slice_get_within, slice_get-get_or, get_or_from_slice_get}
use Rattle.meta_lists.proofs.Places.{get_stays, get_right}
use Rattle.meta_settings.specs.declared.setting.SpecificSetting.{SpecificSetting}
use Rattle.meta_settings.specs.declared.setting.SpecificSetting.TheVariants.{Bool as ABool, Enum as AnEnum, Num as ANum}
use Rattle.meta_settings.specs.GroupDeclaration.{GroupDeclaration}
use Rattle.meta_settings.specs.LaidOut.{built_of}
use Rattle.meta_settings.specs.Layout.{PlacedSetting, BuiltPreset, Layout}
use Rattle.meta_setting_tables.specs.declared.descriptor.Detail.{Detail}
use Rattle.meta_setting_tables.specs.declared.descriptor.Descriptor.{Descriptor}
use Rattle.meta_setting_tables.specs.DefaultBytes.{HoldsDefault}
use Rattle.meta_setting_tables.specs.Descriptor.{IsDetailOf}
use Rattle.meta_setting_tables.specs.GroupTables.{GroupContents, AreTablesOfGroup}
use Rattle.meta_setting_tables.proofs.Enabled.{default_back, same_enabled_names}
use Rattle.meta_query_lines.specs.SettingLine.{BoolFacts, NumFacts, EnumFacts, PresetFacts, line_of_facts, setting_facts, setting_line}
use Rattle.meta_query_lines.specs.SettingLine.{preset_line, entry_lines, facts_in, line_in}

-- ---- what is told of settings

module _ (t : GroupContents) (before : List PlacedSetting) where
  -- the tables tell of a setting what it is
  same_facts : (byte : ℕ) (specific : SpecificSetting) (detail : Detail) (value : ℕ)
      → IsDetailOf t.enumerators before specific detail → slice_get t.defaults byte ≡ Some value
      → HoldsDefault value specific → setting_facts byte specific ≡ facts_in t byte detail
  same_facts byte (ABool b) detail value is there holds =
      let read : get_or t.defaults byte 0 ≡ value = get_or_from_slice_get t.defaults byte value 0 there in
      ap (BoolFacts byte b.bit_offset) (sym (ap (λ n. bit_at n b.bit_offset == 1) read
      ∙ default_back b.default (bit_at value b.bit_offset) holds)) ∙ ap (facts_in t byte) (sym is)
  same_facts byte (AnEnum values) detail value is there holds =
      ap (EnumFacts byte) (sym (ap (λ n. take n (drop is.place t.enumerators)) (sym is.count) ∙ is.stand.values_are))
      ∙ ap (facts_in t byte) (sym is.is)
  same_facts byte (ANum default) detail value is there holds =
      ap (NumFacts byte) (sym (get_or_from_slice_get t.defaults byte value 0 there ∙ holds)) ∙ ap (facts_in t byte) (sym is)

-- ---- the lines of a group

module _ (g : GroupDeclaration) (t : GroupContents) (made : AreTablesOfGroup (built_of g) t) where
  abbrev layout : Layout
  layout = built_of g

  -- the line that the tables give for an entry is that which it has
  pub same_line : (e : ℕ) (d : Descriptor) → slice_get t.descriptors e ≡ Some d → slice_get (entry_lines layout) e ≡ Some (line_in t d)
  same_line e d at = elim (cases_lt e (length layout.settings)) [
    | inl setting ↦
        let s = get_or layout.settings e (setting_like d) in
        let s_at = slice_get-get_or layout.settings e (setting_like d) setting in
        of_setting s s_at
    | inr preset ↦ of_preset (e - length layout.settings) (omega (arith, preset))
  ]
    where
      setting_like : Descriptor → PlacedSetting
      setting_like d = record { name = []; description = []; comment = []; specific = ANum 0; byte_offset = 0 }

      of_setting : (s : PlacedSetting) → slice_get layout.settings e ≡ Some s → slice_get (entry_lines layout) e ≡ Some (line_in t d)
      of_setting s s_at =
          let says = (made.entries e d at).setting s s_at in
          let held = made.defaults.hold e s s_at in
          let line : setting_line s ≡ line_in t d =
          ap₂ line_of_facts (sym says.name)
          (same_facts t (take e layout.settings) s.byte_offset s.specific d.detail held.byte says.detail held.there
          held.holds ∙ ap (λ offset. facts_in t offset d.detail) (sym says.offset)) in
          get_stays (map setting_line layout.settings) (map (preset_line layout) layout.presets) e (setting_line s)
          (slice_get-map setting_line layout.settings e ∙ ap (option_map setting_line) s_at) ∙ ap (λ l. Some l) line

      of_preset : (k : ℕ) → e ≡ length layout.settings + k → slice_get (entry_lines layout) e ≡ Some (line_in t d)
      of_preset k after =
          let within = slice_get_within t.descriptors e d at in
          let count = made.count in
          let none : BuiltPreset = record { name = []; description = []; booleans = [] } in
          let p = get_or layout.presets k none in
          let p_at : slice_get layout.presets k ≡ Some p = slice_get-get_or layout.presets k none (omega (arith, within, count, after)) in
          let is = (made.entries e d at).preset k p after p_at in
          let line : preset_line layout p ≡ line_in t d =
          ap (λ names. line_of_facts p.name (PresetFacts names)) (sym (same_enabled_names g t made k p p_at)) ∙ ap (line_in t) (sym is) in
          ap (slice_get (entry_lines layout)) (after ∙ ap (λ n. n + k) (sym (length-map layout.settings setting_line)))
          ∙ get_right (map setting_line layout.settings) (map (preset_line layout) layout.presets) k
          ∙ slice_get-map (preset_line layout) layout.presets k ∙ ap (option_map (preset_line layout)) p_at ∙ ap (λ l. Some l) line
