-- The tables of a group that is built are well-formed.
use Rattle.std.proofs.Common.{◌≡◌, ◌⊎◌, inl, inr, ⊎_elim, ℕ, ◌+◌, ◌*◌, ◌<◌, ◌≤◌, true, false, List, [], All, length, take, drop, slice_get}
use Rattle.std.proofs.Common.{Some, None, Option, Contains, refl, sym, ap, ◌∙◌, subst, arith}
use Rattle.std.specs.Int.{bit_at}
use Rattle.std.proofs.Math.Nat.{mul-le-mul_right}
use Rattle.std.proofs.lemmas.Bool.{cases_lt}
use Rattle.std.proofs.lemmas.List.{length-drop, length-take}
use Rattle.std.proofs.lemmas.List.Elements.{All-nil}
use Rattle.std.proofs.lemmas.Option.{slice_get_within, same_Some}
use Rattle.meta_lists.proofs.Everywhere.{everywhere, at_place}
use Rattle.meta_lists.proofs.Places.{get_there}
use Rattle.meta_types.specs.Name.{IsName}
use Rattle.meta_types.specs.SharedNames.{AreDistinct}
use Rattle.meta_settings.specs.GroupFaults.{IsPlainByte}
use Rattle.meta_settings.specs.declared.setting.BoolSetting.{BoolSetting}
use Rattle.meta_settings.specs.declared.setting.SpecificSetting.{SpecificSetting}
use Rattle.meta_settings.specs.declared.setting.SpecificSetting.TheVariants.{Bool as ABool, Enum as AnEnum, Num as ANum}
use Rattle.meta_settings.specs.Layout.{PlacedSetting, Layout, IsSized, booleans_in}
use Rattle.meta_unique.specs.NameSlots.{AreNameSlots}
use Rattle.meta_setting_tables.specs.declared.descriptor.Detail.{Detail}
use Rattle.meta_setting_tables.specs.declared.descriptor.Detail.TheVariants.{Bool as BoolDetail, Enum as EnumDetail, Num as NumDetail}
use Rattle.meta_setting_tables.specs.declared.descriptor.Detail.TheVariants.{Preset}
use Rattle.meta_setting_tables.specs.declared.descriptor.Descriptor.{Descriptor}
use Rattle.meta_setting_tables.specs.BuiltLayout.{AreValues, IsDescribed, IsBuiltLayout}
use Rattle.meta_setting_tables.specs.DefaultBytes.{joined_at, HoldsDefault}
use Rattle.meta_setting_tables.specs.Descriptor.{IsDetailOf, IsEnumDetail}
use Rattle.meta_setting_tables.specs.GroupTables.{GroupContents, AreTablesOfGroup}
use Rattle.meta_setting_tables.specs.WellFormed.{describes_own_byte, is_boolean, is_preset, own_byte_count, described_boolean_count}
use Rattle.meta_setting_tables.specs.WellFormed.{preset_count, described_byte_count, KeepLimits, AreWellNamed, IsPlaced, ArePlaced}
use Rattle.meta_setting_tables.specs.WellFormed.{HasItsValues, HoldsBooleansAlone, HasFirstValue, AreGoodDefaults, AreGoodMasks}
use Rattle.meta_setting_tables.specs.WellFormed.{IsWellFormedGroup}
use Rattle.meta_setting_tables.proofs.EntriesRead.{numbered_preset}
use Rattle.meta_setting_tables.proofs.Passing.{counted_between}
use Rattle.meta_setting_tables.proofs.EnumeratorsBuilt.{all_after, most_after}
use Rattle.meta_setting_tables.proofs.Joining.{placed, boolean_on}

-- ---- entries that are placed are of their kinds

module _ (ds : List Descriptor) (own booleans size : ℕ) (are : (e : ℕ) (d : Descriptor) → slice_get ds e ≡ Some d
    → IsPlaced own booleans size e d.offset d.detail) where
  own_where : (e offset : ℕ) (detail : Detail) → IsPlaced own booleans size e offset detail
      → ((e < own) × (describes_own_byte detail ≡ true)) ⊎ ((own ≤ e) × (describes_own_byte detail ≡ false))
  own_where e offset (BoolDetail bit) h = let b = h.after in inr (omega (arith, b), refl)
  own_where e offset (EnumDetail last place) h = inl (h.first, refl)
  own_where e offset NumDetail h = inl (h.first, refl)
  own_where e offset Preset h = let b = h.after in inr (omega (arith, b), refl)

  boolean_where : (e offset : ℕ) (detail : Detail) → IsPlaced own booleans size e offset detail
      → ((own ≤ e) × (e < own + booleans) × (is_boolean detail ≡ true)) ⊎ (((e < own) ⊎ (own + booleans ≤ e)) × (is_boolean detail ≡ false))
  boolean_where e offset (BoolDetail bit) h = let b = h.after in let w = h.within in inl (omega (arith, b), omega (arith, b, w), refl)
  boolean_where e offset (EnumDetail last place) h = inr (inl h.first, refl)
  boolean_where e offset NumDetail h = inr (inl h.first, refl)
  boolean_where e offset Preset h = let b = h.after in inr (inr (omega (arith, b)), refl)

  preset_where : (e offset : ℕ) (detail : Detail) → IsPlaced own booleans size e offset detail
      → ((own + booleans ≤ e) × (is_preset detail ≡ true)) ⊎ ((e < own + booleans) × (is_preset detail ≡ false))
  preset_where e offset (BoolDetail bit) h = let b = h.after in let w = h.within in inr (omega (arith, b, w), refl)
  preset_where e offset (EnumDetail last place) h = let f = h.first in inr (omega (arith, f), refl)
  preset_where e offset NumDetail h = let f = h.first in inr (omega (arith, f), refl)
  preset_where e offset Preset h = let b = h.after in inl (omega (arith, b), refl)

  module _ (presets : ℕ) (long : length ds ≡ own + booleans + presets) where
    own_counted : own_byte_count ds ≡ own
    own_counted = counted_between (λ (d : Descriptor). describes_own_byte d.detail) ds 0 own (omega (arith, long))
        (λ e d at a b. ⊎_elim (λ h. h.1) (λ h. let l = h.0 in absurd (omega (arith, l, b))) (own_where e d.offset d.detail (are e d at)))
        (λ e d at out. ⊎_elim (λ h. let l = h.0 in
        absurd (⊎_elim (λ o. omega (arith, o)) (λ o. omega (arith, l, o)) out)) (λ h. h.1) (own_where e d.offset d.detail (are e d at)))

    booleans_counted : described_boolean_count ds ≡ booleans
    booleans_counted = counted_between (λ (d : Descriptor). is_boolean d.detail) ds own booleans (omega (arith, long))
        (λ e d at a b. ⊎_elim (λ h. h.2)
        (λ h. absurd (⊎_elim (λ o. omega (arith, o, a)) (λ o. omega (arith, o, b)) h.0)) (boolean_where e d.offset d.detail (are e d at)))
        (λ e d at out. ⊎_elim (λ h. let l = h.0 in let m = h.1 in
        absurd (⊎_elim (λ o. omega (arith, l, o)) (λ o. omega (arith, m, o)) out)) (λ h. h.1)
        (boolean_where e d.offset d.detail (are e d at)))

    presets_counted : preset_count ds ≡ presets
    presets_counted = counted_between (λ (d : Descriptor). is_preset d.detail) ds (own + booleans) presets (omega (arith, long))
        (λ e d at a b. ⊎_elim (λ h. h.1) (λ h. let l = h.0 in absurd (omega (arith, l, a))) (preset_where e d.offset d.detail (are e d at)))
        (λ e d at out. ⊎_elim (λ h. let l = h.0 in let w = slice_get_within ds e d at in
        absurd (⊎_elim (λ o. omega (arith, l, o)) (λ o. omega (arith, o, w, long)) out)) (λ h. h.1)
        (preset_where e d.offset d.detail (are e d at)))

-- ---- the entries of a built group

module _ (g : Layout) (t : GroupContents) (built : IsBuiltLayout g)
    (sized : IsSized g.settings g.bool_start_byte_offset g.settings_size) (h : AreTablesOfGroup g t) where
  setting_total : length g.settings ≡ g.bool_start_byte_offset + length (booleans_in g)
  setting_total = let w = sized.within in let cut = length-drop g.bool_start_byte_offset g.settings in omega (arith, w, cut)

  -- a setting stands in its place
  placed_own : (before : List PlacedSetting) (e offset : ℕ) (x : SpecificSetting) (detail : Detail)
      → ((b : BoolSetting) → x ≡ ABool b → ⊥) → e < g.bool_start_byte_offset → offset ≡ e
      → IsDetailOf t.enumerators before x detail
      → IsPlaced g.bool_start_byte_offset (length (booleans_in g)) g.settings_size e offset detail
  placed_own before e offset (ABool b) detail no_boolean first is d = absurd (no_boolean b refl)
  placed_own before e offset (AnEnum values) detail no_boolean first is d =
      subst (IsPlaced g.bool_start_byte_offset (length (booleans_in g)) g.settings_size e offset) (sym d.is)
      (record { first = first; byte_is = is })
  placed_own before e offset (ANum default) detail no_boolean first is d =
      subst (IsPlaced g.bool_start_byte_offset (length (booleans_in g)) g.settings_size e offset) (sym d)
      (record { first = first; byte_is = is })

  boolean_detail : (before : List PlacedSetting) (x : SpecificSetting) (b : BoolSetting) (detail : Detail)
      → x ≡ ABool b → IsDetailOf t.enumerators before x detail → detail ≡ BoolDetail b.bit_offset
  boolean_detail before x b detail is d = subst (λ (y : SpecificSetting). IsDetailOf t.enumerators before y detail) is d

  pub entries_placed : (e : ℕ) (d : Descriptor) → slice_get t.descriptors e ≡ Some d
      → IsPlaced g.bool_start_byte_offset (length (booleans_in g)) g.settings_size e d.offset d.detail
  entries_placed e d at = go (slice_get g.settings e) refl
    where
      go : (o : Option PlacedSetting) → slice_get g.settings e ≡ o
          → IsPlaced g.bool_start_byte_offset (length (booleans_in g)) g.settings_size e d.offset d.detail
      go (Some s) there =
          let describes = (h.entries e d at).setting s there in
          elim (placed g built sized e s there) [
            | inl first ↦ placed_own (take e g.settings) e d.offset s.specific d.detail first.1.no_boolean first.0
                (describes.offset ∙ first.1.byte_is) describes.detail
            | inr bit ↦
                subst (IsPlaced g.bool_start_byte_offset (length (booleans_in g)) g.settings_size e d.offset)
                (sym (boolean_detail (take e g.settings) s.specific bit.3.boolean d.detail bit.3.is_boolean describes.detail))
                (record {
                  number = bit.0;
                  within = bit.2;
                  after = bit.1;
                  place = record { byte_is = describes.offset ∙ bit.3.byte_is; bit_is = bit.3.bit_is };
                })
          ]
      go None none =
          let p = numbered_preset g t e d h at none in
          let total = setting_total in
          let place = p.1 in
          subst (λ (x : Descriptor). IsPlaced g.bool_start_byte_offset
          (length (booleans_in g)) g.settings_size e x.offset x.detail) (sym p.2.2)
          (record { number = p.0; after = omega (arith, place, total); offset_is = refl })

  entries_long : length t.descriptors ≡ g.bool_start_byte_offset + length (booleans_in g) + length g.presets
  entries_long = let count = h.count in let total = setting_total in omega (arith, count, total)

  own_is : own_byte_count t.descriptors ≡ g.bool_start_byte_offset
  own_is = own_counted t.descriptors g.bool_start_byte_offset (length (booleans_in g)) g.settings_size entries_placed
      (length g.presets) entries_long

  booleans_are : described_boolean_count t.descriptors ≡ length (booleans_in g)
  booleans_are = booleans_counted t.descriptors g.bool_start_byte_offset
      (length (booleans_in g)) g.settings_size entries_placed (length g.presets) entries_long

  presets_are : preset_count t.descriptors ≡ length g.presets
  presets_are = presets_counted t.descriptors g.bool_start_byte_offset
      (length (booleans_in g)) g.settings_size entries_placed (length g.presets) entries_long

  bytes_are : described_byte_count t.descriptors ≡ g.settings_size
  bytes_are = let a = own_is in let b = booleans_are in let size = sized.bytes in omega (arith, a, b, size)

  layout_rule : ArePlaced t.descriptors
  layout_rule e d at =
      subst (λ n. IsPlaced n (described_boolean_count t.descriptors) (described_byte_count t.descriptors) e d.offset d.detail) (sym own_is)
      (subst (λ n. IsPlaced g.bool_start_byte_offset n (described_byte_count t.descriptors) e d.offset d.detail) (sym booleans_are)
      (subst (λ n. IsPlaced g.bool_start_byte_offset (length (booleans_in g)) n e d.offset d.detail) (sym bytes_are)
      (entries_placed e d at)))

  -- texts of an entry
  entry_described : (e : ℕ) (d : Descriptor) → slice_get t.descriptors e ≡ Some d → IsDescribed d.name d.description
  entry_described e d at = go (slice_get g.settings e) refl
    where
      go : (o : Option PlacedSetting) → slice_get g.settings e ≡ o → IsDescribed d.name d.description
      go (Some s) there =
          let describes = (h.entries e d at).setting s there in
          let own = built.settings e s there in
          record {
            is_name = subst IsName (sym describes.name) own.is_name;
            is_plain = subst (All IsPlainByte) (sym describes.description) own.is_plain;
          }
      go None none =
          let p = numbered_preset g t e d h at none in
          subst (λ (x : Descriptor). IsDescribed x.name x.description) (sym p.2.2) (built.described_presets p.0 p.2.0 p.2.1)

  enum_early : g.settings_size ≤ 255 → (k : ℕ) (s : PlacedSetting) (values : List (List ℕ))
      → slice_get g.settings k ≡ Some s → s.specific ≡ AnEnum values → (k < 255) × (length values ≤ 256)
  enum_early small k s values at is = (
    ⊎_elim
        (λ first. let l = first.0 in let size = sized.bytes in omega (arith, l, size, small))
        (λ bit. let bad : ABool bit.3.boolean ≡ AnEnum values = sym bit.3.is_boolean ∙ is in absurd (cc))
        (placed g built sized k s at),
    (built.enums k s values at is).good.few,
  )

  names_good : AreWellNamed t.name t.descriptors t.enumerators
  names_good = record {
    group_name = subst IsName (sym h.name) built.name;
    entry_names = everywhere t.descriptors (λ e d at. (entry_described e d at).is_name);
    enumerator_names = subst (All IsName) (sym h.enumerators)
        (all_after IsName g.settings [] (All-nil IsName) (λ k s values at is. (built.enums k s values at is).names));
    descriptions = everywhere t.descriptors (λ e d at. (entry_described e d at).is_plain);
    distinct = subst AreDistinct (sym h.names) built.distinct;
  }

  limits_kept : g.settings_size ≤ 255 → KeepLimits t.descriptors t.enumerators
  limits_kept small = record {
    few_entries = let count = h.count in let few = built.few in omega (arith, count, few);
    few_booleans = let count = booleans_are in let few = sized.few in omega (arith, count, few);
    few_bytes = let count = bytes_are in omega (arith, count, small);
    few_enumerators =
        let most = most_after g.settings [] 255 (enum_early small) in let long = ap length h.enumerators in omega (arith, most, long);
  }

  -- the values of an enum
  values_good : (e : ℕ) (d : Descriptor) → slice_get t.descriptors e ≡ Some d → HasItsValues t.enumerators d.detail
  values_good e d at = go (slice_get g.settings e) refl
    where
      of_enum : (before : List PlacedSetting) (values : List (List ℕ)) (detail : Detail) → AreValues values
          → IsEnumDetail t.enumerators before values detail → HasItsValues t.enumerators detail
      of_enum before values detail good d =
          let count = d.count in
          let few = good.good.few in
          let stand : take (d.last + 1) (drop d.place t.enumerators) ≡ values =
          ap (λ n. take n (drop d.place t.enumerators)) (sym count) ∙ d.stand.values_are in
          let long = ap length stand in
          let cut = length-take (d.last + 1) (drop d.place t.enumerators) in
          let rest = length-drop d.place t.enumerators in
          subst (HasItsValues t.enumerators) (sym d.is) (record {
            few = omega (arith, count, few);
            inside = omega (arith, long, cut, rest, count);
            distinct = subst AreDistinct (sym stand) good.good.distinct;
          })

      of_setting : (before : List PlacedSetting) (x : SpecificSetting) (detail : Detail)
          → ((values : List (List ℕ)) → x ≡ AnEnum values → AreValues values)
          → IsDetailOf t.enumerators before x detail → HasItsValues t.enumerators detail
      of_setting before (ABool b) detail good d = subst (HasItsValues t.enumerators) (sym d) tt
      of_setting before (AnEnum values) detail good d = of_enum before values detail (good values refl) d
      of_setting before (ANum default) detail good d = subst (HasItsValues t.enumerators) (sym d) tt

      go : (o : Option PlacedSetting) → slice_get g.settings e ≡ o → HasItsValues t.enumerators d.detail
      go (Some s) there = of_setting (take e g.settings) s.specific d.detail
          (λ values is. built.enums e s values there is) ((h.entries e d at).setting s there).detail
      go None none =
          let p = numbered_preset g t e d h at none in subst (λ (x : Descriptor). HasItsValues t.enumerators x.detail) (sym p.2.2) tt

  -- default bytes
  first_value : (e : ℕ) (d : Descriptor) → slice_get t.descriptors e ≡ Some d → HasFirstValue t.defaults d.offset d.detail
  first_value e d at = go (slice_get g.settings e) refl
    where
      of_setting : (before : List PlacedSetting) (offset byte : ℕ) (x : SpecificSetting) (detail : Detail)
          → slice_get t.defaults offset ≡ Some byte → HoldsDefault byte x → IsDetailOf t.enumerators before x detail
          → HasFirstValue t.defaults offset detail
      of_setting before offset byte (ABool b) detail there holds d = subst (HasFirstValue t.defaults offset) (sym d) tt
      of_setting before offset byte (AnEnum values) detail there holds d =
          subst (HasFirstValue t.defaults offset) (sym d.is) (there ∙ ap Some holds)
      of_setting before offset byte (ANum default) detail there holds d = subst (HasFirstValue t.defaults offset) (sym d) tt

      go : (o : Option PlacedSetting) → slice_get g.settings e ≡ o → HasFirstValue t.defaults d.offset d.detail
      go (Some s) there =
          let describes = (h.entries e d at).setting s there in
          let held = h.defaults.hold e s there in
          of_setting (take e g.settings) d.offset held.byte s.specific d.detail
          (ap (slice_get t.defaults) describes.offset ∙ held.there) held.holds describes.detail
      go None none =
          let p = numbered_preset g t e d h at none in subst (λ (x : Descriptor). HasFirstValue t.defaults x.offset x.detail) (sym p.2.2) tt

  -- what is told of the counts of the group is told of those of the entries
  alone_as_counted : (byte m : ℕ) → HoldsBooleansAlone g.bool_start_byte_offset (length (booleans_in g)) byte m
      → HoldsBooleansAlone (own_byte_count t.descriptors) (described_boolean_count t.descriptors) byte m
  alone_as_counted byte m a = subst (λ n. HoldsBooleansAlone n (described_boolean_count t.descriptors) byte m)
      (sym own_is) (subst (λ n. HoldsBooleansAlone g.bool_start_byte_offset n byte m) (sym booleans_are) a)

  defaults_good : All (λ b. b < 256) t.defaults → AreGoodDefaults t.descriptors t.defaults
  defaults_good fit = record {
    count = h.defaults.size ∙ sym bytes_are;
    bytes = fit;
    enums = everywhere t.descriptors first_value;
    booleans = λ byte b after at.
        let inside = slice_get_within t.defaults byte b at in
        let size = h.defaults.size in
        let start = own_is in
        let is : b ≡ joined_at byte g.settings = same_Some b (joined_at byte g.settings)
        (sym at ∙ h.defaults.joined byte (omega (arith, inside, size))) in
        alone_as_counted byte b (record {
          fits = at_place (λ n. n < 256) t.defaults byte b fit at;
          bits = λ bit low on.
              let j = boolean_on g built sized byte bit (omega (arith, after, start)) (ap (λ n. bit_at n bit) (sym is) ∙ on) in
              record { number = j.0; within = j.1; place = record { byte_is = j.2; bit_is = j.3 } };
        });
  }

  -- masks of presets
  masks_good : AreGoodMasks t.descriptors t.preset_masks
  masks_good = record {
    count = h.masks.size ∙ ap (λ n. n * g.settings_size) (sym presets_are) ∙ ap (λ n. preset_count t.descriptors * n) (sym bytes_are);
    booleans = λ k byte m below at.
        let size = bytes_are in
        let there : slice_get t.preset_masks (k * g.settings_size + byte) ≡ Some m =
        ap (λ n. slice_get t.preset_masks (k * n + byte)) (sym bytes_are) ∙ at in
        let inside = slice_get_within t.preset_masks (k * g.settings_size + byte) m there in
        let all = h.masks.size in
        let low : byte < g.settings_size = omega (arith, below, size) in
        let l : k < length g.presets =
        ⊎_elim (λ l. l) (λ past. let more : length g.presets * g.settings_size ≤ k * g.settings_size =
        mul-le-mul_right g.settings_size past in absurd (omega (arith, more, inside, all))) (cases_lt k (length g.presets)) in
        let p = get_there g.presets k l in
        let has = h.masks.bits k byte m p.0 p.1 low there in
        alone_as_counted byte m (record {
          fits = has.fits;
          bits = λ bit small on.
              let one = (has.bits bit small).0 on in
              record {
                number = one.boolean;
                within = contained p.0.booleans one.boolean (built.presets k p.0 p.1) one.is_on;
                place = record { byte_is = one.byte_is; bit_is = one.bit_is };
              };
        });
  }
    where
      contained : (numbers : List ℕ) (b : ℕ) → All (λ b. b < length (booleans_in g)) numbers → Contains numbers b
          → b < length (booleans_in g)
      contained numbers b all (k, l, e) = let below = all k b l in omega (arith, below, e)

  pub well_formed : g.settings_size ≤ 255 → All (λ b. b < 256) t.defaults → IsWellFormedGroup t
  well_formed small fit = record {
    limits = limits_kept small;
    names = names_good;
    placed = layout_rule;
    values = everywhere t.descriptors values_good;
    defaults = defaults_good fit;
    masks = masks_good;
    slots = subst (λ w. AreNameSlots 0 w t.slots) (sym h.names) h.slots;
  }
