-- What is read at an entry of the tables.
use Rattle.std.proofs.Common.{Bor, ◌≡◌, ℕ, ◌+◌, ◌-◌, ◌<◌, ◌≤◌, Bool, false, List, nat_eq, length, take, slice_get, slice_index_or, get_or}
use Rattle.std.proofs.Common.{Some, None, Option, inl, inr, refl, sym, ap, ◌∙◌, subst, arith}
use Rattle.std.specs.Option.{option_map, IsSome, IfSome, MatchOption}
use Rattle.std.specs.List.{HoldsAt}
use Rattle.std.specs.Cmp.Lexicographic.{pointwise}
use Rattle.std.proofs.lemmas.Bool.{cases_lt}
use Rattle.std.proofs.lemmas.Option.{slice_get-map, slice_get_within, slice_get_past, slice_get_read, get_or_from_slice_get, same_Some}
use Rattle.meta_lists.proofs.Places.{get_there}
use Rattle.meta_settings.specs.declared.setting.SpecificSetting.{SpecificSetting}
use Rattle.meta_settings.specs.declared.setting.SpecificSetting.TheVariants.{Bool as ABool, Enum as AnEnum, Num as ANum}
use Rattle.meta_settings.specs.Layout.{PlacedSetting, BuiltPreset, Layout}
use Rattle.meta_setting_tables.specs.declared.descriptor.Detail.{Detail}
use Rattle.meta_setting_tables.specs.declared.descriptor.Detail.TheVariants.{Bool as BoolDetail, Enum as EnumDetail, Num as NumDetail}
use Rattle.meta_setting_tables.specs.declared.descriptor.Detail.TheVariants.{Preset}
use Rattle.meta_setting_tables.specs.declared.descriptor.Descriptor.{Descriptor}
use Rattle.meta_setting_tables.specs.Descriptor.{IsDetailOf, preset_descriptor, DescribesEntry}
use Rattle.meta_setting_tables.specs.DefaultBytes.{default_number, HoldsDefault}
use Rattle.meta_setting_tables.specs.FoundSetting.{laid_entry_count}
use Rattle.meta_unique.specs.NameSlots.{NameAnswers}
use Rattle.meta_unique.proofs.Finding.{answers_name}
use Rattle.meta_setting_tables.specs.GroupTables.{GroupContents, names_in, IsPresetIn, AreTablesOfGroup, IsPresetOf, default_in}
use Rattle.meta_setting_tables.specs.GroupTables.{AnswersDefault}

-- ---- names

pub has_name : (ds : List Descriptor) (index : ℕ) (d : Descriptor) (own name : List ℕ) (b : Bool) → slice_get ds index ≡ Some d
    → own ≡ d.name → b ≡ pointwise nat_eq own name → NameAnswers 0 (names_in ds) name index b
has_name ds index d own name b at e test =
    answers_name 0 (names_in ds) index index own name b (omega arith)
    (slice_get-map (λ (d : Descriptor). d.name) ds index ∙ ap (option_map (λ (d : Descriptor). d.name)) at ∙ ap Some (sym e)) test

pub has_no_name : (ds : List Descriptor) (index : ℕ) (name : List ℕ) → length ds ≤ index → NameAnswers 0 (names_in ds) name index false
has_no_name ds index name past = (
  λ t. absurd (cc),
  λ n. let same : n.place ≡ index = omega (arith, n.number_is) in
      let none : slice_get (names_in ds) index ≡ None = slice_get-map (λ (d : Descriptor). d.name) ds index
      ∙ ap (option_map (λ (d : Descriptor). d.name)) (slice_get_past ds index past) in
      let e : Some name ≡ None = sym n.there ∙ ap (slice_get (names_in ds)) same ∙ none in absurd (cc),
)

-- ---- entries of a group

-- an entry with a descriptor that is no setting is a preset
pub numbered_preset : (g : Layout) (t : GroupContents) (e : ℕ) (d : Descriptor) → AreTablesOfGroup g t → slice_get t.descriptors e ≡ Some d
    → slice_get g.settings e ≡ None → (k : ℕ) × (e ≡ length g.settings + k)
    × ((p : BuiltPreset) × (slice_get g.presets k ≡ Some p) × (d ≡ preset_descriptor g.settings_size k p))
numbered_preset g t e d h at none =
    elim (cases_lt e (length g.settings)) [
      | inl before ↦ let x = get_there g.settings e before in let bad : None ≡ Some x.0 = sym none ∙ x.1 in absurd (cc)
      | inr after ↦
          let l = slice_get_within t.descriptors e d at in
          let count = h.count in
          let p = get_there g.presets (e - length g.settings) (omega (arith, l, count, after)) in
          let place : e ≡ length g.settings + (e - length g.settings) = omega arith in
          (e - length g.settings, place, (p.0, p.1, (h.entries e d at).preset (e - length g.settings) p.0 place p.1))
    ]

-- the descriptor of a preset's entry
pub preset_entry : (g : Layout) (t : GroupContents) (e : ℕ) (p : BuiltPreset) (d : Descriptor) (h : AreTablesOfGroup g t)
    (is : IsPresetOf g e p) → slice_get t.descriptors e ≡ Some d → d ≡ preset_descriptor g.settings_size is.number p
preset_entry g t e p d h is at = (h.entries e d at).preset is.number p is.after is.there

pub preset_there : (g : Layout) (t : GroupContents) (e : ℕ) (p : BuiltPreset) → AreTablesOfGroup g t → IsPresetOf g e p
    → (d : Descriptor) × IsPresetIn t.descriptors e d
preset_there g t e p h is =
    let l = slice_get_within g.presets is.number p is.there in
    let count = h.count in
    let after = is.after in
    let d = get_there t.descriptors e (omega (arith, l, count, after)) in
    (d.0, record { there = d.1; is_preset = ap (λ (d : Descriptor). d.detail) (preset_entry g t e p d.0 h is d.1) })

-- no setting's detail is that of a preset
no_preset_detail : (enumerators : List (List ℕ)) (before : List PlacedSetting) (x : SpecificSetting) (detail : Detail)
    → IsDetailOf enumerators before x detail → detail ≡ Preset → ⊥
no_preset_detail enumerators before (ABool b) detail h e = let f : BoolDetail b.bit_offset ≡ Preset = sym h ∙ e in (cc)
no_preset_detail enumerators before (AnEnum values) detail h e = let f : EnumDetail h.last h.place ≡ Preset = sym h.is ∙ e in (cc)
no_preset_detail enumerators before (ANum default) detail h e = let f : NumDetail ≡ Preset = sym h ∙ e in (cc)

-- an entry whose descriptor is that of a preset is one
pub preset_is : (g : Layout) (t : GroupContents) (e : ℕ) (d : Descriptor) → AreTablesOfGroup g t → IsPresetIn t.descriptors e d
    → (p : BuiltPreset) × IsPresetOf g e p
preset_is g t e d h is = go (slice_get g.settings e) refl
  where
    go : (o : Option PlacedSetting) → slice_get g.settings e ≡ o → (p : BuiltPreset) × IsPresetOf g e p
    go (Some s) at = absurd (no_preset_detail t.enumerators (take e g.settings) s.specific d.detail
        ((h.entries e d is.there).setting s at).detail is.is_preset)
    go None at = let b = numbered_preset g t e d h is.there at in (b.2.0, record { number = b.0; after = b.1; there = b.2.1 })

-- ---- defaults

-- what is answered at the entry's descriptor is answered at whatever stands there
pub default_at : (ds : List Descriptor) (defaults : List ℕ) (index : ℕ) (d : Descriptor) (answer : Option ℕ) → slice_get ds index ≡ Some d
    → answer ≡ default_in (get_or defaults d.offset 0) d.detail
    → (other : Descriptor) → slice_get ds index ≡ Some other → answer ≡ default_in (get_or defaults other.offset 0) other.detail
default_at ds defaults index d answer at e other at' =
    subst (λ (x : Descriptor). answer ≡ default_in (get_or defaults x.offset 0) x.detail) (same_Some d other (sym at ∙ at')) e

by_kind : (enumerators : List (List ℕ)) (before : List PlacedSetting) (x : SpecificSetting) (detail : Detail) (byte : ℕ)
    → IsDetailOf enumerators before x detail → HoldsDefault byte x → default_in byte detail ≡ Some (default_number x)
by_kind enumerators before (ABool b) detail byte h holds = ap (default_in byte) h ∙ ap Some holds
by_kind enumerators before (AnEnum values) detail byte h holds = ap (default_in byte) h.is
by_kind enumerators before (ANum default) detail byte h holds = ap (default_in byte) h ∙ ap Some holds

pub answers_default : (g : Layout) (t : GroupContents) (index : ℕ) (d : Descriptor) (answer : Option ℕ)
    → slice_get t.descriptors index ≡ Some d → answer ≡ default_in (get_or t.defaults d.offset 0) d.detail → AreTablesOfGroup g t
    → AnswersDefault g index answer
answers_default g t index d answer at e h = record {
  setting = λ s at'.
      let describes = (h.entries index d at).setting s at' in
      let held = h.defaults.hold index s at' in
      let byte : get_or t.defaults d.offset 0 ≡ held.byte =
      get_or_from_slice_get t.defaults d.offset held.byte 0 (ap (slice_get t.defaults) describes.offset ∙ held.there) in
      e ∙ ap (λ n. default_in n d.detail) byte
      ∙ by_kind t.enumerators (take index g.settings) s.specific d.detail held.byte describes.detail held.holds;
  other = λ none. let b = numbered_preset g t index d h at none in e
      ∙ ap (λ (x : Descriptor). default_in (get_or t.defaults d.offset 0) x.detail) b.2.2;
}

-- an entry that was read stands in the list that was lent
pub read_at : (ds lent : List Descriptor) (index : ℕ) (d : Descriptor) → lent ≡ ds → index < length lent → d ≡ slice_index_or lent index d
    → slice_get ds index ≡ Some d
read_at ds lent index d is within at = ap (λ (w : List Descriptor). slice_get w index) (sym is)
    ∙ slice_get_read lent (length lent) index d refl within at

-- what a look-up answers
pub entry_read : (ds lent : List Descriptor) (index : ℕ) (r : Option (Bor Descriptor)) → lent ≡ ds
    → MatchOption r (length lent ≤ index) (λ x. (index < length lent) × HoldsAt (λ y. x.now ≡ y) lent index)
    → option_map (λ d. d.now) r ≡ slice_get ds index
entry_read ds lent index None is past = sym (ap (λ (w : List Descriptor). slice_get w index) (sym is) ∙ slice_get_past lent index past)
entry_read ds lent index (Some d) is m = sym (read_at ds lent index d.now is m.0 (m.1 d.now))

-- there is an entry exactly below the count of the entries
pub entry_there : (g : Layout) (t : GroupContents) (e : ℕ) (r : Option (Bor Descriptor))
    → option_map (λ d. d.now) r ≡ slice_get t.descriptors e → AreTablesOfGroup g t
    → (IsSome r → e < laid_entry_count g) × (e < laid_entry_count g → IsSome r)
entry_there g t e None at h =
    let count = h.count in
    (λ s. absurd (cc), λ l. let x = get_there t.descriptors e (omega (arith, l)) in let bad : None ≡ Some x.0 = at ∙ x.1 in absurd (cc))
entry_there g t e (Some d) at h =
    let count = h.count in
    let inside = slice_get_within t.descriptors e d.now (sym at) in
    (λ s. omega arith, λ l. refl)

pub entry_described : (g : Layout) (t : GroupContents) (e : ℕ) (r : Option (Bor Descriptor))
    → option_map (λ d. d.now) r ≡ slice_get t.descriptors e → AreTablesOfGroup g t → IfSome r (λ d. DescribesEntry g t.enumerators e d.now)
entry_described g t e None at h = tt
entry_described g t e (Some d) at h = h.entries e d.now (sym at)

-- an answer at an entry of the tables
pub record IsAnsweredAt (t : GroupContents) (index : ℕ) (d : Descriptor) (answer : Option ℕ) : Type 0 where
  pub at : slice_get t.descriptors index ≡ Some d
  pub is : answer ≡ default_in (get_or t.defaults d.offset 0) d.detail

-- what is answered at the entry that was read is answered at an entry of the tables as they are shown
pub answered_at : (inside shown : GroupContents) (index : ℕ) (d : Descriptor) (answer : Option ℕ) (defaults : List ℕ) → inside ≡ shown
    → defaults ≡ inside.defaults → slice_get inside.descriptors index ≡ Some d
    → answer ≡ default_in (get_or defaults d.offset 0) d.detail → IsAnsweredAt shown index d answer
answered_at inside shown index d answer defaults is own at e = subst (λ t. IsAnsweredAt t index d answer) is (record {
  at = at;
  is = e ∙ ap (λ (xs : List ℕ). default_in (get_or xs d.offset 0) d.detail) own;
})

-- so there is an entry
pub some_entry : (t : GroupContents) (index : ℕ) (d : Descriptor) (answer : Option ℕ) → IsAnsweredAt t index d answer
    → slice_get t.descriptors index ≡ None → answer ≡ None
some_entry t index d answer h none = let bad : Some d ≡ None = sym h.at ∙ none in absurd (cc)
