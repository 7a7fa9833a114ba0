-- The sets that masks stand for.
use Rattle.std.specs.Prelude.{ℕ, ◌==◌, Bool, true, false, bit_and}
use Rattle.std.specs.List.{filter}
use Rattle.meta_types.specs.TypeParts.{IntKind, FloatKind, widths, lane_counts}
use Rattle.meta_typevar.specs.TypeSetParts.{TypeSetParts}
use Rattle.meta_typevar.specs.Masks.{AreMasksOf}
use Rattle.meta_typevar.specs.declared.masks.Masks.{Masks}

-- whether the mask holds the power of two n
abbrev pub holds : ℕ → ℕ → Bool
holds mask n = bit_and mask n == n

-- the numbers, of those that are allowed, that each mask holds
abbrev pub sets_in : Masks → TypeSetParts
sets_in m = record {
  lanes = filter (holds m.lanes) (lane_counts false);
  dynamic_lanes = filter (holds m.dynamic_lanes) (lane_counts true);
  ints = filter (holds m.ints) (widths IntKind);
  floats = filter (holds m.floats) (widths FloatKind);
}

-- each mask is the sum of numbers that its set may have
abbrev pub AreMasks : Masks → Type 0
AreMasks m = AreMasksOf (sets_in m) m
