-- What is served by the tables of a declared group is what is served by the layout of the group.
use Rattle.std.proofs.Common.{◌≡◌, ℕ, suc, ◌+◌, ◌-◌, ◌*◌, ◌<◌, ◌≤◌, ◌==◌, inl, inr, Bool, true, false, not, List, [], ◌∷◌, length, map}
use Rattle.std.proofs.Common.{take, drop, slice_get, get_or, Some, refl, sym, ap, ap₂, ◌∙◌, arith}
use Rattle.std.specs.Option.{option_map}
use Rattle.std.specs.Int.{bit_at}
use Rattle.std.proofs.lemmas.Bool.{cond-true, cond-false, cases_lt}
use Rattle.std.proofs.lemmas.List.{length-map, length-append}
use Rattle.std.proofs.lemmas.Option.{slice_get-map, slice_get_within, get_or_from_slice_get}
use Rattle.meta_lists.proofs.Places.{get_stays, get_right, same_places, get_there}
use Rattle.meta_settings.specs.declared.setting.SpecificSetting.{SpecificSetting}
use Rattle.meta_settings.specs.declared.setting.SpecificSetting.TheVariants.{Bool as ABool, Enum as AnEnum, Num as ANum}
use Rattle.meta_settings.specs.GroupDeclaration.{GroupDeclaration}
use Rattle.meta_settings.specs.LaidOut.{built_of}
use Rattle.meta_settings.specs.Layout.{PlacedSetting, BuiltPreset, Layout}
use Rattle.meta_setting_tables.specs.declared.descriptor.Detail.{Detail}
use Rattle.meta_setting_tables.specs.declared.descriptor.Descriptor.{Descriptor}
use Rattle.meta_setting_tables.specs.DefaultBytes.{HoldsDefault}
use Rattle.meta_setting_tables.specs.Descriptor.{IsDetailOf}
use Rattle.meta_setting_tables.specs.GroupTables.{GroupContents, AreTablesOfGroup}
use Rattle.meta_setting_tables.specs.EntryValues.{is_on, masks_from, is_one_of}
use Rattle.meta_setting_tables.specs.WellFormed.{is_preset}
use Rattle.meta_setting_tables.proofs.Enabled.{AreNamedAlike, alike, default_back}
use Rattle.meta_flags.specs.Served.{BoolKind, NumKind, EnumKind, PresetKind, kind_in, kind_of_setting, served_setting, served_preset}
use Rattle.meta_flags.specs.Served.{settings_in, marks_in, served_entry, served_in, served_of}

-- a setting is of the same kind by its detail, the enumerators and the defaults
same_kind : (t : GroupContents) (before : List PlacedSetting) (byte : ℕ) (specific : SpecificSetting)
    (detail : Detail) (value : ℕ) → IsDetailOf t.enumerators before specific detail
    → slice_get t.defaults byte ≡ Some value → HoldsDefault value specific → kind_in t byte detail ≡ kind_of_setting specific
same_kind t before byte (ABool b) detail value is there holds =
    let read : get_or t.defaults byte 0 ≡ value = get_or_from_slice_get t.defaults byte value 0 there in
    ap (kind_in t byte) is ∙ ap BoolKind (ap (λ n. bit_at n b.bit_offset == 1) read
    ∙ default_back b.default (bit_at value b.bit_offset) holds)
same_kind t before byte (AnEnum values) detail value is there holds =
    ap (kind_in t byte) is.is ∙ ap EnumKind (ap (λ n. take n (drop is.place t.enumerators)) (sym is.count) ∙ is.stand.values_are)
same_kind t before byte (ANum default) detail value is there holds =
    ap (kind_in t byte) is ∙ ap NumKind (get_or_from_slice_get t.defaults byte value 0 there ∙ holds)

-- a setting's detail is no preset's
no_preset : (enumerators : List (List ℕ)) (before : List PlacedSetting) (specific : SpecificSetting) (detail : Detail)
    → IsDetailOf enumerators before specific detail → is_preset detail ≡ false
no_preset enumerators before (ABool b) detail is = ap is_preset is
no_preset enumerators before (AnEnum values) detail is = ap is_preset is.is
no_preset enumerators before (ANum default) detail is = ap is_preset is

module _ (marked : Descriptor → Bool) (is_named : PlacedSetting → Bool) where
  -- settings and their descriptors, after which presets come, are marked the same
  same_marks : (ss : List PlacedSetting) (ds : List Descriptor)
      → ((k : ℕ) (s : PlacedSetting) (d : Descriptor) → slice_get ss k ≡ Some s → slice_get ds k ≡ Some d
      → AreNamedAlike marked is_named s d × (is_preset d.detail ≡ false)) → length ss ≤ length ds
      → ((k : ℕ) (d : Descriptor) → length ss ≤ k → slice_get ds k ≡ Some d → is_preset d.detail ≡ true)
      → map marked (settings_in ds) ≡ map is_named ss
  same_marks [] [] same few after = refl
  same_marks [] (d ∷ ds) same few after =
      ap (map marked) (cond-false (not (is_preset d.detail)) _ _ (ap not (after 0 d (omega arith) refl)))
      ∙ same_marks [] ds (λ k s d at. absurd (cc)) (omega arith) (λ k d past. after (suc k) d (omega arith))
  same_marks (s ∷ ss) [] same few after = absurd (omega (arith, few))
  same_marks (s ∷ ss) (d ∷ ds) same few after =
      let h = same 0 s d refl refl in
      let rest = same_marks ss ds (λ k s d. same (suc k) s d) (omega (arith, few)) (λ k d past. after (suc k) d (omega (arith, past))) in
      ap (map marked) (cond-true (not (is_preset d.detail)) _ _ (ap not h.1)) ∙ ap₂ (λ (b : Bool) (bs : List Bool). b ∷ bs) h.0.same rest

module _ (g : GroupDeclaration) (t : GroupContents) (made : AreTablesOfGroup (built_of g) t) where
  abbrev layout : Layout
  layout = built_of g

  -- a setting is served the same
  setting_at : (e : ℕ) (d : Descriptor) (s : PlacedSetting) → slice_get t.descriptors e ≡ Some d
      → slice_get layout.settings e ≡ Some s → served_entry t d ≡ served_setting s
  setting_at e d s at s_at =
      let says = (made.entries e d at).setting s s_at in
      let held = made.defaults.hold e s s_at in
      let name = says.name in
      let kind = ap (λ offset. kind_in t offset d.detail) says.offset
      ∙ same_kind t (take e layout.settings) s.byte_offset s.specific d.detail held.byte says.detail held.there held.holds in
      λ i. record { name = name i; kind = kind i }

  -- the marks of a preset are the same
  marks_at : (k : ℕ) (p : BuiltPreset) → slice_get layout.presets k ≡ Some p
      → marks_in t (k * layout.settings_size) ≡ map (λ (s : PlacedSetting). is_one_of p.booleans s.specific) layout.settings
  marks_at k p p_at = let count = made.count in same_marks _ _ layout.settings t.descriptors like (omega (arith, count)) after
    where
      like : (j : ℕ) (s : PlacedSetting) (d : Descriptor) → slice_get layout.settings j ≡ Some s → slice_get t.descriptors j ≡ Some d
          → AreNamedAlike (λ (x : Descriptor). is_on
          (masks_from (length t.defaults) t.preset_masks (k * layout.settings_size)) x.offset x.detail)
          (λ (s : PlacedSetting). is_one_of p.booleans s.specific) s d × (is_preset d.detail ≡ false)
      like j s d s_at d_at = (
        alike g t made k p p_at j s d s_at d_at,
        no_preset t.enumerators (take j layout.settings) s.specific d.detail ((made.entries j d d_at).setting s s_at).detail,
      )

      after : (j : ℕ) (d : Descriptor) → length layout.settings ≤ j → slice_get t.descriptors j ≡ Some d → is_preset d.detail ≡ true
      after j d past d_at =
          let within = slice_get_within t.descriptors j d d_at in
          let count = made.count in
          let n = j - length layout.settings in
          let place : j ≡ length layout.settings + n = omega (arith, past) in
          let (q, q_at) = get_there layout.presets n (omega (arith, within, count, place)) in
          ap (λ (x : Descriptor). is_preset x.detail) ((made.entries j d d_at).preset n q place q_at)

  -- a preset is served the same
  preset_at : (e k : ℕ) (d : Descriptor) (p : BuiltPreset) → slice_get t.descriptors e ≡ Some d
      → e ≡ length layout.settings + k → slice_get layout.presets k ≡ Some p → served_entry t d ≡ served_preset layout p
  preset_at e k d p at after p_at =
      ap (served_entry t) ((made.entries e d at).preset k p after p_at)
      ∙ ap (λ (bs : List Bool). record { name = p.name; kind = PresetKind bs }) (marks_at k p p_at)

  -- the entry at a place
  entry_at : (e : ℕ) (d : Descriptor) → slice_get t.descriptors e ≡ Some d
      → slice_get (served_of layout).entries e ≡ Some (served_entry t d)
  entry_at e d at = elim (cases_lt e (length layout.settings)) [
    | inl setting ↦
        let (s, s_at) = get_there layout.settings e setting in
        get_stays (map served_setting layout.settings) (map (served_preset layout) layout.presets) e
        (served_setting s) (slice_get-map served_setting layout.settings e ∙ ap (option_map served_setting) s_at)
        ∙ ap Some (sym (setting_at e d s at s_at))
    | inr preset ↦
        let k = e - length layout.settings in
        let after : e ≡ length layout.settings + k = omega (arith, preset) in
        let within = slice_get_within t.descriptors e d at in
        let count = made.count in
        let (p, p_at) = get_there layout.presets k (omega (arith, within, count, after)) in
        ap (slice_get (served_of layout).entries) (after ∙ ap (λ n. n + k) (sym (length-map layout.settings served_setting)))
        ∙ get_right (map served_setting layout.settings) (map (served_preset layout) layout.presets) k
        ∙ slice_get-map (served_preset layout) layout.presets k ∙ ap (option_map (served_preset layout)) p_at
        ∙ ap Some (sym (preset_at e k d p at after p_at))
  ]

  -- What is served is the same.
  pub same_served : served_in t ≡ served_of layout
  same_served =
      let entries = same_places (served_in t).entries (served_of layout).entries counted each in
      let name = made.name in
      λ i. record { name = name i; entries = entries i }
    where
      counted : length (served_in t).entries ≡ length (served_of layout).entries
      counted =
          let a = length-map t.descriptors (served_entry t) in
          let b = length-append (map served_setting layout.settings) (map (served_preset layout) layout.presets) in
          let c = length-map layout.settings served_setting in
          let f = length-map layout.presets (served_preset layout) in
          let count = made.count in
          omega (arith, a, b, c, f, count)

      each : (e : ℕ) → e < length (served_in t).entries → slice_get (served_in t).entries e ≡ slice_get (served_of layout).entries e
      each e less =
          let a = length-map t.descriptors (served_entry t) in
          let (d, at) = get_there t.descriptors e (omega (arith, less, a)) in
          slice_get-map (served_entry t) t.descriptors e ∙ ap (option_map (served_entry t)) at ∙ sym (entry_at e d at)
