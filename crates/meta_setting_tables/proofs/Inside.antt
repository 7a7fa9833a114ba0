-- The entries of well-formed tables point inside the default bytes and the masks.
use Rattle.std.proofs.Common.{◌≡◌, ℕ, ◌+◌, ◌*◌, ◌/◌, ◌<◌, ◌≤◌, cond, List, [], ◌∷◌, length, slice_get, Some, refl, sym, subst, arith}
use Rattle.std.specs.Prelude.{filter}
use Rattle.std.proofs.Math.Nat.{mul-le-mul_right}
use Rattle.std.proofs.lemmas.Option.{slice_get_within}
use Rattle.meta_setting_tables.specs.declared.descriptor.Detail.{Detail}
use Rattle.meta_setting_tables.specs.declared.descriptor.Detail.TheVariants.{Bool as ABool, Enum as AnEnum, Num as ANum, Preset}
use Rattle.meta_setting_tables.specs.declared.descriptor.Descriptor.{Descriptor}
use Rattle.meta_setting_tables.specs.GroupTables.{GroupContents, IsInside}
use Rattle.meta_setting_tables.specs.WellFormed.{describes_own_byte, is_boolean, is_preset, own_byte_count, described_boolean_count}
use Rattle.meta_setting_tables.specs.WellFormed.{preset_count, described_byte_count, IsPlaced, IsWellFormedGroup}

-- each entry is of one kind
pub all_kinds : (entries : List Descriptor)
    → own_byte_count entries + described_boolean_count entries + preset_count entries ≡ length entries
all_kinds [] = refl
all_kinds (d ∷ entries) = go d.detail (all_kinds entries)
  where
    go : (detail : Detail) → own_byte_count entries + described_boolean_count entries + preset_count entries ≡ length entries
        → length (cond (describes_own_byte detail)
        (d ∷ filter (λ (d : Descriptor). describes_own_byte d.detail) entries)
        (filter (λ (d : Descriptor). describes_own_byte d.detail) entries))
        + length (cond (is_boolean detail) (d ∷ filter (λ (d : Descriptor). is_boolean d.detail) entries)
        (filter (λ (d : Descriptor). is_boolean d.detail) entries))
        + length (cond (is_preset detail) (d ∷ filter (λ (d : Descriptor). is_preset d.detail) entries)
        (filter (λ (d : Descriptor). is_preset d.detail) entries))
        ≡ length (d ∷ entries)
    go (ABool bit) rest = omega (arith, rest)
    go (AnEnum last place) rest = omega (arith, rest)
    go ANum rest = omega (arith, rest)
    go Preset rest = omega (arith, rest)

inside_as : (own booleans presets size masks e offset : ℕ) (detail : Detail) → size ≡ own + (booleans + 7) / 8
    → masks ≡ presets * size → e < own + booleans + presets → IsPlaced own booleans size e offset detail → IsInside size masks offset detail
inside_as own booleans presets size masks e offset (ABool bit) sized all within h =
    let byte = h.place.byte_is in let bit_is = h.place.bit_is in let below = h.within in
    (omega (arith, sized, byte, below), omega (arith, bit_is))
inside_as own booleans presets size masks e offset (AnEnum last place) sized all within h =
    let first = h.first in let byte = h.byte_is in omega (arith, sized, first, byte)
inside_as own booleans presets size masks e offset ANum sized all within h =
    let first = h.first in let byte = h.byte_is in omega (arith, sized, first, byte)
inside_as own booleans presets size masks e offset Preset sized all within h =
    let after = h.after in let is = h.offset_is in
    let room : (h.number + 1) * size ≤ presets * size = mul-le-mul_right size (omega (arith, within, after)) in
    omega (arith, room, all, is)

pub inside_of : (t : GroupContents) → IsWellFormedGroup t → (e : ℕ) (d : Descriptor)
    → slice_get t.descriptors e ≡ Some d → IsInside (length t.defaults) (length t.preset_masks) d.offset d.detail
inside_of t w e d at =
    let total = all_kinds t.descriptors in
    let within = slice_get_within t.descriptors e d at in
    subst (λ n. IsInside n (length t.preset_masks) d.offset d.detail) (sym w.defaults.count)
    (inside_as (own_byte_count t.descriptors) (described_boolean_count t.descriptors) (preset_count t.descriptors)
    (described_byte_count t.descriptors) (length t.preset_masks) e d.offset d.detail refl w.masks.count
    (omega (arith, total, within)) (w.placed e d at))
