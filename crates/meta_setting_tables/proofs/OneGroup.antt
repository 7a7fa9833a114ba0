-- Tables of a group are one.
use Rattle.std.proofs.Common.{◌≡◌, ◌↔◌, ⊎_elim, ℕ, ◌+◌, ◌-◌, ◌*◌, ◌/◌, ◌%◌, ◌<◌, List, length, take, slice_get, Some, sym, ap, ◌∙◌, subst}
use Rattle.std.proofs.Common.{arith}
use Rattle.std.specs.Int.{bit_at}
use Rattle.std.proofs.Math.Nat.{div-lt_iff_lt-mul}
use Rattle.std.proofs.lemmas.Bool.{cases_eq, cases_lt}
use Rattle.std.proofs.lemmas.Nat.{div-add-mod'}
use Rattle.std.proofs.lemmas.Nat.Bits.{bit_at-lt, same_from_bits_below}
use Rattle.meta_lists.proofs.Places.{get_there, same_places}
use Rattle.meta_settings.specs.declared.setting.SpecificSetting.{SpecificSetting}
use Rattle.meta_settings.specs.declared.setting.SpecificSetting.TheVariants.{Bool as ABool, Enum as AnEnum, Num as ANum}
use Rattle.meta_settings.specs.Layout.{PlacedSetting, Layout}
use Rattle.meta_setting_tables.specs.declared.descriptor.Detail.{Detail}
use Rattle.meta_setting_tables.specs.declared.descriptor.Detail.TheVariants.{Enum}
use Rattle.meta_setting_tables.specs.declared.descriptor.Descriptor.{Descriptor}
use Rattle.meta_setting_tables.specs.Descriptor.{IsDetailOf, DescribesSetting, DescribesEntry}
use Rattle.meta_setting_tables.specs.DefaultBytes.{AreDefaultsOf}
use Rattle.meta_setting_tables.specs.FoundSetting.{entry_names, laid_entry_count}
use Rattle.meta_setting_tables.specs.GroupTables.{GroupContents, AreTablesOfGroup}
use Rattle.meta_setting_tables.specs.PresetMasks.{ArePresetMasks}
use Rattle.meta_unique.proofs.OneFilling.{one_filling}

-- ---- bytes

-- digits that are 1 under the same condition are the same
same_digit : (a b : ℕ) → a < 2 → b < 2 → (a ≡ 1 → b ≡ 1) → (b ≡ 1 → a ≡ 1) → a ≡ b
same_digit a b l m f g = ⊎_elim
    (λ one. one ∙ sym (f one))
    (λ other. ⊎_elim (λ one. g one ∙ sym one) (λ none. omega (arith, l, m, other, none)) (cases_eq b 1))
    (cases_eq a 1)

-- bytes with the same bits are the same
pub same_byte : (a b : ℕ) → a < 256 → b < 256 → ((bit : ℕ) → bit < 8 → (bit_at a bit ≡ 1) ↔ (bit_at b bit ≡ 1)) → a ≡ b
same_byte a b l m same = same_from_bits_below 8 a b l m
    (λ i low. same_digit (bit_at a i) (bit_at b i) (bit_at-lt a i) (bit_at-lt b i) (same i low).0 (same i low).1)

-- ---- descriptors

module _ (enumerators : List (List ℕ)) (before : List PlacedSetting) where
  same_detail : (specific : SpecificSetting) (x y : Detail) → IsDetailOf enumerators before specific x
      → IsDetailOf enumerators before specific y → x ≡ y
  same_detail (ABool b) x y p q = p ∙ sym q
  same_detail (AnEnum values) x y p q =
      let last : p.last ≡ q.last = (let a = p.count in let b = q.count in omega (arith, a, b)) in
      let place : p.place ≡ q.place = p.place_is ∙ sym q.place_is in
      let both : Enum p.last p.place ≡ Enum q.last q.place = λ i. Enum (last i) (place i) in
      p.is ∙ both ∙ sym q.is
  same_detail (ANum default) x y p q = p ∙ sym q

  same_setting : (s : PlacedSetting) (c d : Descriptor) → DescribesSetting enumerators before s c → DescribesSetting enumerators before s d
      → c ≡ d
  same_setting s c d p q =
      let name : c.name ≡ d.name = p.name ∙ sym q.name in
      let description : c.description ≡ d.description = p.description ∙ sym q.description in
      let offset : c.offset ≡ d.offset = p.offset ∙ sym q.offset in
      let detail = same_detail s.specific c.detail d.detail p.detail q.detail in
      λ i. record { name = name i; description = description i; offset = offset i; detail = detail i }

-- an entry has one descriptor
same_entry : (g : Layout) (enumerators : List (List ℕ)) (e : ℕ) (c d : Descriptor) → e < laid_entry_count g
    → DescribesEntry g enumerators e c → DescribesEntry g enumerators e d → c ≡ d
same_entry g enumerators e c d within p q = ⊎_elim
    (λ setting. let s = get_there g.settings e setting
    in same_setting enumerators (take e g.settings) s.0 c d (p.setting s.0 s.1) (q.setting s.0 s.1))
    (λ preset.
    let k = e - length g.settings in
    let after : e ≡ length g.settings + k = omega (arith, preset) in
    let r = get_there g.presets k (omega (arith, within, after)) in
    p.preset k r.0 after r.1 ∙ sym (q.preset k r.0 after r.1))
    (cases_lt e (length g.settings))

module _ (g : Layout) (s t : GroupContents) (p : AreTablesOfGroup g s) (q : AreTablesOfGroup g t) where
  same_enumerators : s.enumerators ≡ t.enumerators
  same_enumerators = p.enumerators ∙ sym q.enumerators

  same_descriptors : s.descriptors ≡ t.descriptors
  same_descriptors = same_places s.descriptors t.descriptors (p.count ∙ sym q.count) each
    where
      each : (e : ℕ) → e < length s.descriptors → slice_get s.descriptors e ≡ slice_get t.descriptors e
      each e less =
          let count = p.count in
          let other = q.count in
          let within : e < laid_entry_count g = omega (arith, less, count) in
          let c = get_there s.descriptors e less in
          let d = get_there t.descriptors e (omega (arith, within, other)) in
          c.1
          ∙ ap Some (same_entry g t.enumerators e c.0 d.0 within
          (subst (λ (es : List (List ℕ)). DescribesEntry g es e c.0) same_enumerators (p.entries e c.0 c.1)) (q.entries e d.0 d.1))
          ∙ sym d.1

-- the default bytes of a group are one list
same_defaults : (g : Layout) (a b : List ℕ) → AreDefaultsOf g a → AreDefaultsOf g b → a ≡ b
same_defaults g a b p q = same_places a b (p.size ∙ sym q.size)
    (λ byte less. let size = p.size in let within : byte < g.settings_size = omega (arith, less, size) in p.joined byte within
    ∙ sym (q.joined byte within))

-- a place among masks is that of a byte of a preset
place_of : (at count size : ℕ) → at < count * size → (k : ℕ) × (byte : ℕ) × (k < count) × (byte < size) × (k * size + byte ≡ at)
place_of at count size less = ⊎_elim
    (λ none. let no : at < count * 0 = subst (λ n. at < count * n) none less in absurd (omega (arith, no)))
    (λ some.
    let more : 0 < size = omega (arith, some) in
    (at / size, at % size, (div-lt_iff_lt-mul more).1 less, omega (arith, more), div-add-mod' at size))
    (cases_eq size 0)

-- the masks of its presets are one list
same_masks : (g : Layout) (a b : List ℕ) → ArePresetMasks g a → ArePresetMasks g b → a ≡ b
same_masks g a b p q = same_places a b (p.size ∙ sym q.size) each
  where
    each : (at : ℕ) → at < length a → slice_get a at ≡ slice_get b at
    each at less =
        let size = p.size in
        let other = q.size in
        let place = place_of at (length g.presets) g.settings_size (omega (arith, less, size)) in
        let r = get_there g.presets place.0 place.2 in
        let m = get_there a at less in
        let n = get_there b at (omega (arith, less, size, other)) in
        let one = p.bits place.0 place.1 m.0 r.0 r.1 place.3 (ap (slice_get a) place.4 ∙ m.1) in
        let two = q.bits place.0 place.1 n.0 r.0 r.1 place.3 (ap (slice_get b) place.4 ∙ n.1) in
        m.1 ∙ ap Some (same_byte m.0 n.0 one.fits two.fits (λ bit low. (
          (λ on. (two.bits bit low).1 ((one.bits bit low).0 on)),
          (λ on. (one.bits bit low).1 ((two.bits bit low).0 on)),
        ))) ∙ sym n.1

-- tables of a group are one
pub one_group : (g : Layout) (s t : GroupContents) → AreTablesOfGroup g s → AreTablesOfGroup g t → s ≡ t
one_group g s t p q =
    let name : s.name ≡ t.name = p.name ∙ sym q.name in
    let descriptors = same_descriptors g s t p q in
    let enumerators = same_enumerators g s t p q in
    let defaults = same_defaults g s.defaults t.defaults p.defaults q.defaults in
    let masks = same_masks g s.preset_masks t.preset_masks p.masks q.masks in
    let slots = one_filling 0 (entry_names g) s.slots t.slots p.slots q.slots in
    λ i. record {
      name = name i;
      descriptors = descriptors i;
      enumerators = enumerators i;
      defaults = defaults i;
      preset_masks = masks i;
      slots = slots i;
    }
