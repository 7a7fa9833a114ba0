-- The tables of a group that are well-formed can be told from their text.
use Rattle.std.proofs.Common.{◌≡◌, ℕ, suc, ◌+◌, ◌-◌, ◌*◌, ◌/◌, ◌%◌, ◌^◌, ◌<◌, ◌≤◌, cond, Bool, true, false, ◌⊎◌, inl, inr, ⊎_elim, List, []}
use Rattle.std.proofs.Common.{◌∷◌, ◌++◌, All, length, filter, get_or, slice_get, take, drop, Option, Some, refl, sym, ap, ◌∙◌, subst, arith}
use Rattle.std.specs.List.{flat_map}
use Rattle.std.proofs.Math.Nat.{mul_comm}
use Rattle.std.proofs.lemmas.Bool.{cases_lt}
use Rattle.std.proofs.lemmas.Nat.{mul-le}
use Rattle.std.proofs.lemmas.List.{take-append-drop, drop-drop, drop_all, length-take-le, length-drop, length-map}
use Rattle.std.proofs.lemmas.List.Elements.{All-cons, All-nil, All-take, All-drop}
use Rattle.std.proofs.lemmas.Option.{slice_get-get_or}
use Rattle.meta_unique.specs.NameSlots.{AreNameSlots}
use Rattle.meta_unique.proofs.Numbered.{count_of_numbers}
use Rattle.meta_setting_tables.specs.declared.descriptor.Detail.{Detail}
use Rattle.meta_setting_tables.specs.declared.descriptor.Detail.TheVariants.{Bool as ABool, Enum as AnEnum, Num as ANum, Preset}
use Rattle.meta_setting_tables.specs.declared.descriptor.Descriptor.{Descriptor}
use Rattle.meta_setting_tables.specs.GroupTables.{GroupContents, names_in}
use Rattle.meta_setting_tables.specs.WellFormed.{is_preset, own_byte_count, described_boolean_count, preset_count, described_byte_count}
use Rattle.meta_setting_tables.specs.WellFormed.{StandsAtMasks, IsPlaced, HasItsValues, AreGoodMasks, IsWellFormedGroup}
use Rattle.meta_setting_tables.specs.EntryValues.{masks_from}
use Rattle.meta_setting_tables.proofs.Inside.{all_kinds}
use Rattle.meta_table_reader.specs.ShownGroup.{IsShownDetail, IsShownDescriptor, IsByte, AreShownMasksOf, AreShownPresets, AreShownGroup}

-- ---- slots

-- few names have few slots
pub few_slots : (first : ℕ) (names : List (List ℕ)) (slots : List (Option ℕ)) → AreNameSlots first names slots → length names ≤ 65535
    → length slots < 2 ^ 64
few_slots first names slots are few =
    let count = count_of_numbers first (length names) in
    let most = are.size.least (2 ^ 17) (17, refl) (omega (arith, count, few)) in
    omega (arith, most)

-- ---- presets, with the settings before them

-- the entry at this place is a setting or has the masks of its number
abbrev StandsAt : ℕ → ℕ → ℕ → Descriptor → Type 0
StandsAt settings size e d = (e < settings) ⊎ StandsAtMasks settings size e d.offset

placed_apart : (own booleans size e : ℕ) (d : Descriptor) (k : Detail) → IsPlaced own booleans size e d.offset k
    → ((is_preset k ≡ false) × (e < own + booleans)) ⊎ ((is_preset k ≡ true) × StandsAtMasks (own + booleans) size e d.offset)
placed_apart own booleans size e d (ABool bit) is = let within = is.within in let after = is.after
    in inl (refl, omega (arith, within, after))
placed_apart own booleans size e d (AnEnum last enumerators) is = let first = is.first in inl (refl, omega (arith, first))
placed_apart own booleans size e d ANum is = let first = is.first in inl (refl, omega (arith, first))
placed_apart own booleans size e d Preset is = inr (refl, is)

module _ (settings size : ℕ) (masks : List ℕ) where
  -- the entry is a setting, or a preset with its masks
  abbrev Apart : ℕ → Descriptor → Type 0
  Apart e d = ((is_preset d.detail ≡ false) × (e < settings)) ⊎ ((is_preset d.detail ≡ true) × StandsAtMasks settings size e d.offset)

  abbrev own : Descriptor → List ℕ
  own d = masks_from size masks d.offset

  -- from the place e on, the masks of the presets are those that are left
  joined_from : (e : ℕ) (ds : List Descriptor) → ((k : ℕ) (d : Descriptor) → slice_get ds k ≡ Some d → Apart (e + k) d)
      → length masks ≤ (e + length ds - settings) * size
      → flat_map own (filter (λ d. is_preset d.detail) ds) ≡ drop ((e - settings) * size) masks
  joined_from e [] each long =
      sym (drop_all ((e - settings) * size) masks (subst (λ n. length masks ≤ (n - settings) * size) (omega arith) long))
  joined_from e (d ∷ ds) each long =
      by_kind (is_preset d.detail) refl (joined_from (suc e) ds after (subst (λ n. length masks ≤ (n - settings) * size) next long))
    where
      next : e + length (d ∷ ds) ≡ suc e + length ds
      next = omega arith

      after : (k : ℕ) (x : Descriptor) → slice_get ds k ≡ Some x → Apart (suc e + k) x
      after k x there = let next : e + suc k ≡ suc e + k = omega arith in subst (λ n. Apart n x) next (each (suc k) x there)

      here : Apart e d
      here = let first : e + 0 ≡ e = omega arith in subst (λ n. Apart n d) first (each 0 d refl)

      by_kind : (b : Bool) → is_preset d.detail ≡ b → flat_map own (filter (λ d. is_preset d.detail) ds)
          ≡ drop ((suc e - settings) * size) masks
          → flat_map own (cond b (d ∷ filter (λ d. is_preset d.detail) ds) (filter (λ d. is_preset d.detail) ds))
          ≡ drop ((e - settings) * size) masks
      by_kind true is below = of_preset here
        where
          of_preset : Apart e d → own d ++ flat_map own (filter (λ d. is_preset d.detail) ds) ≡ drop ((e - settings) * size) masks
          of_preset (inl (other, within)) = absurd (cc)
          of_preset (inr (same, at)) =
              let number : e - settings ≡ at.number = let after = at.after in omega (arith, after) in
              let next : (suc e - settings) * size ≡ at.number * size + size =
              ap (λ n. n * size) (let after = at.after in let n : suc e - settings ≡ suc at.number = omega (arith, after) in n)
              ∙ (omega arith) in
              (λ i. take size (drop (at.offset_is i) masks) ++ (below ∙ ap (λ n. drop n masks) next
              ∙ sym (drop-drop size (at.number * size) masks)) i)
              ∙ take-append-drop size (drop (at.number * size) masks)
              ∙ ap (λ n. drop (n * size) masks) (sym number)
      by_kind false is below = of_setting here
        where
          of_setting : Apart e d → flat_map own (filter (λ d. is_preset d.detail) ds) ≡ drop ((e - settings) * size) masks
          of_setting (inl (other, within)) =
              let now : e - settings ≡ 0 = omega (arith, within) in
              let then : suc e - settings ≡ 0 = omega (arith, within) in
              below ∙ ap (λ n. drop (n * size) masks) (then ∙ sym now)
          of_setting (inr (same, at)) = absurd (cc)

  -- each preset has its masks
  own_masks : (e : ℕ) (ds : List Descriptor) → ((k : ℕ) (d : Descriptor) → slice_get ds k ≡ Some d → Apart (e + k) d)
      → (e + length ds - settings) * size ≤ length masks → All IsByte masks
      → All (AreShownMasksOf size masks) (filter (λ d. is_preset d.detail) ds)
  own_masks e [] each long bytes = All-nil (AreShownMasksOf size masks)
  own_masks e (d ∷ ds) each long bytes =
      by_kind (is_preset d.detail) refl (own_masks (suc e) ds after (subst (λ n. (n - settings) * size ≤ length masks) next long) bytes)
    where
      next : e + length (d ∷ ds) ≡ suc e + length ds
      next = omega arith

      after : (k : ℕ) (x : Descriptor) → slice_get ds k ≡ Some x → Apart (suc e + k) x
      after k x there = let next : e + suc k ≡ suc e + k = omega arith in subst (λ n. Apart n x) next (each (suc k) x there)

      here : Apart e d
      here = let first : e + 0 ≡ e = omega arith in subst (λ n. Apart n d) first (each 0 d refl)

      by_kind : (b : Bool) → is_preset d.detail ≡ b → All (AreShownMasksOf size masks) (filter (λ d. is_preset d.detail) ds)
          → All (AreShownMasksOf size masks) (cond b (d ∷ filter (λ d. is_preset d.detail) ds) (filter (λ d. is_preset d.detail) ds))
      by_kind true is below = All-cons (AreShownMasksOf size masks) d (filter (λ d. is_preset d.detail) ds) (of_preset here) below
        where
          of_preset : Apart e d → AreShownMasksOf size masks d
          of_preset (inl (other, within)) = absurd (cc)
          of_preset (inr (same, at)) =
              let before : suc at.number ≤ e + length (d ∷ ds) - settings = let after = at.after in omega (arith, after) in
              let room = mul-le (suc at.number) size (e + length (d ∷ ds) - settings) size before (omega arith) in
              let enough : size ≤ length (drop d.offset masks) = let is = at.offset_is in let len = length-drop d.offset masks
              in omega (arith, is, len, room, long) in
              record {
                count = length-take-le size (drop d.offset masks) enough;
                bytes = All-take IsByte size (drop d.offset masks) (All-drop IsByte d.offset masks bytes);
              }
      by_kind false is below = below

-- ---- the group

all_bytes : (ds : List Descriptor) (masks : List ℕ) → AreGoodMasks ds masks → All IsByte masks
all_bytes ds masks good = λ i d within. ⊎_elim (λ some. sized i d within some) (λ none. absurd (nothing i within (omega (arith, none))))
    (cases_lt 0 (described_byte_count ds))
  where
    nothing : (i : ℕ) → i < length masks → described_byte_count ds ≡ 0 → ⊥
    nothing i within none = let count = good.count ∙ ap (λ n. preset_count ds * n) none in omega (arith, count, within)

    sized : (i d : ℕ) → i < length masks → 0 < described_byte_count ds → get_or masks i d < 256
    sized i d within some =
        let size = described_byte_count ds in
        let place : i / size * size + i % size ≡ i = let comm = mul_comm (i / size) size in omega (arith, some, comm) in
        (good.booleans (i / size) (i % size) (get_or masks i d) (omega (arith, some)) (ap (slice_get masks) place
        ∙ slice_get-get_or masks i d within)).fits

detail_shown : (enumerators : List (List ℕ)) (own booleans size e offset : ℕ) (k : Detail) → length enumerators ≤ 65535
    → HasItsValues enumerators k → IsPlaced own booleans size e offset k → IsShownDetail k
detail_shown enumerators own booleans size e offset (ABool bit) few has is = let bit_is = is.place.bit_is in omega (arith, bit_is)
detail_shown enumerators own booleans size e offset (AnEnum last place) few has is = let inside = has.inside in let small = has.few
    in record { last = omega (arith, small); enumerators = omega (arith, inside, few) }
detail_shown enumerators own booleans size e offset ANum few has is = tt
detail_shown enumerators own booleans size e offset Preset few has is = tt

offset_small : (own booleans size e offset : ℕ) (k : Detail) → own + booleans ≤ 65535 → size ≤ 255 → e < 65535
    → IsPlaced own booleans size e offset k → offset < 2 ^ 32
offset_small own booleans size e offset (ABool bit) few sized within is = let byte = is.place.byte_is in let number = is.within
    in omega (arith, byte, number, few)
offset_small own booleans size e offset (AnEnum last place) few sized within is = let byte = is.byte_is in omega (arith, byte, within)
offset_small own booleans size e offset ANum few sized within is = let byte = is.byte_is in omega (arith, byte, within)
offset_small own booleans size e offset Preset few sized within is =
    let after = is.after in
    let product = mul-le is.number size 65535 255 (omega (arith, after, within)) sized in
    let at = is.offset_is in
    omega (arith, product, at)

entry_shown : (g : GroupContents) → IsWellFormedGroup g → (k : ℕ) (d : Descriptor) → k < length g.descriptors
    → IsShownDescriptor (get_or g.descriptors k d)
entry_shown g is k d within =
    let ds = g.descriptors in
    let x = get_or ds k d in
    let own = own_byte_count ds in
    let booleans = described_boolean_count ds in
    let size = described_byte_count ds in
    let few = is.limits.few_entries in
    let settings : own + booleans ≤ 65535 = let count = all_kinds ds in omega (arith, count, few) in
    let placed = is.placed k x (slice_get-get_or ds k d within) in
    record {
      name = is.names.entry_names k d within;
      description = is.names.descriptions k d within;
      offset = offset_small own booleans size k x.offset x.detail settings is.limits.few_bytes (omega (arith, within, few)) placed;
      detail = detail_shown g.enumerators own booleans size k x.offset x.detail is.limits.few_enumerators (is.values k d within) placed;
    }

presets_shown : (g : GroupContents) → IsWellFormedGroup g → AreShownPresets g.descriptors (length g.defaults) g.preset_masks
presets_shown g is =
    let ds = g.descriptors in
    let masks = g.preset_masks in
    let own = own_byte_count ds in
    let booleans = described_boolean_count ds in
    let size = described_byte_count ds in
    let settings = own + booleans in
    let few = is.limits.few_entries in
    let sized = is.limits.few_bytes in
    let count = all_kinds ds in
    let apart : (k : ℕ) (d : Descriptor) → slice_get ds k ≡ Some d → Apart settings size masks (0 + k) d =
    λ k d there. let first : k ≡ 0 + k = omega arith
    in subst (λ n. Apart settings size masks n d) first (placed_apart own booleans size k d d.detail (is.placed k d there)) in
    let number : 0 + length ds - settings ≡ preset_count ds = omega (arith, count) in
    let whole : (0 + length ds - settings) * size ≡ length masks = ap (λ n. n * size) number ∙ sym is.masks.count in
    let product = mul-le (preset_count ds) size 65535 255 (omega (arith, count, few)) sized in
    let each = own_masks settings size masks 0 ds apart (omega (arith, whole)) (all_bytes ds masks is.masks) in
    let none : (0 - settings) * size ≡ 0 = let n : 0 - settings ≡ 0 = omega arith in ap (λ k. k * size) n ∙ (omega arith) in
    let joined = joined_from settings size masks 0 ds apart (omega (arith, whole)) ∙ ap (λ n. drop n masks) none in
    subst (λ n. AreShownPresets ds n masks) (sym is.defaults.count) (record { few = omega (arith, product); each = each; joined = joined })

pub group_shown : (g : GroupContents) → IsWellFormedGroup g → AreShownGroup g
group_shown g is =
    let entries = is.limits.few_entries in
    let enumerators = is.limits.few_enumerators in
    let names = length-map g.descriptors (λ (d : Descriptor). d.name) in
    record {
      name = is.names.group_name;
      few_enumerators = omega (arith, enumerators);
      few_entries = omega (arith, entries);
      few_slots = few_slots 0 (names_in g.descriptors) g.slots is.slots (omega (arith, entries, names));
      enumerators = is.names.enumerator_names;
      descriptors = λ k d within. entry_shown g is k d within;
      presets = presets_shown g is;
      defaults = is.defaults.bytes;
    }
