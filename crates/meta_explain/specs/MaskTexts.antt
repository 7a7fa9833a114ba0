-- Sets of types by their masks: how a type comes to them, and how they are written.
--     with_bits m t          the masks, and the bits of a type
--     mask_text mask all     some numbers of a dimension, by their mask
use Rattle.std.specs.Prelude.{ℕ, ◌/◌, ◌==◌, Bool, true, false, List, [], ◌∷◌, ◌++◌, bit_and, bit_or, codes, if◌then◌else◌}
use Rattle.std.specs.List.{flat_map}
use Rattle.std.specs.Fmt.{decimal}
use Rattle.meta_types.specs.TypeParts.{NumberKind, IntKind, FloatKind, TypeParts, lane_counts}
use Rattle.meta_typevar.specs.declared.masks.Masks.{Masks}

-- the mask of the widths of a kind, and the bit of this width of that kind; and the same of the lane counts of a mark
abbrev pub with_width : NumberKind → NumberKind → ℕ → ℕ → ℕ
with_width IntKind IntKind mask width = bit_or mask width
with_width IntKind FloatKind mask width = mask
with_width FloatKind IntKind mask width = mask
with_width FloatKind FloatKind mask width = bit_or mask width

abbrev pub with_lanes : Bool → Bool → ℕ → ℕ → ℕ
with_lanes true true mask lanes = bit_or mask lanes
with_lanes true false mask lanes = mask
with_lanes false true mask lanes = mask
with_lanes false false mask lanes = bit_or mask lanes

-- the masks, and the bits of the type
abbrev pub with_bits : Masks → TypeParts → Masks
with_bits m t = record {
  lanes = with_lanes false t.is_dynamic m.lanes t.lanes;
  dynamic_lanes = with_lanes true t.is_dynamic m.dynamic_lanes t.lanes;
  ints = with_width IntKind t.kind m.ints t.width;
  floats = with_width FloatKind t.kind m.floats t.width;
}

-- what a power of two has in the spans of a mask: one that the mask holds begins a span, or ends one, or stands within
abbrev pub power_text : ℕ → ℕ → List ℕ
power_text mask n =
    if bit_and mask n == 0 then []
    else (if bit_and mask (n / 2) == 0 then 32 ∷ decimal n
    else (if bit_and (mask / 2) n == 0 then codes ".." ++ decimal n else []))

-- the numbers that a mask holds, of a dimension whose numbers are all those of another mask
abbrev pub mask_text : ℕ → ℕ → List ℕ
mask_text mask all =
    if mask == 0 then codes " none"
    else (if mask == all then codes " all" else flat_map (power_text mask) (lane_counts false))

-- what stands before a part that follows another one
abbrev pub separator : Bool → List ℕ
separator true = codes ", "
separator false = []

-- the part with this name and these members, if it is shown
abbrev pub shown_text : Bool → Bool → List ℕ → List ℕ → List ℕ
shown_text true follows name members = separator follows ++ (name ++ members)
shown_text false follows name members = []
