-- Masks: a set of powers of two as the sum of its members.
use Rattle.std.specs.Prelude.{◌≡◌, ℕ, Bool, true, false, bit_and, sum}
use Rattle.meta_types.specs.TypeParts.{NumberKind, IntKind, FloatKind, TypeParts, IsType, number_of}
use Rattle.meta_typevar.specs.TypeSetParts.{TypeSetParts}
use Rattle.meta_typevar.specs.declared.masks.Masks.{Masks}

-- the mask holds the power of two n
abbrev pub Holds : ℕ → ℕ → Type 0
Holds mask n = bit_and mask n ≡ n

-- the mask of the widths of a kind, and of the lane counts of a mark
abbrev pub width_mask : Masks → NumberKind → ℕ
width_mask m IntKind = m.ints
width_mask m FloatKind = m.floats

abbrev pub lane_mask : Masks → Bool → ℕ
lane_mask m false = m.lanes
lane_mask m true = m.dynamic_lanes

-- the masks contain the type t: the mask of its kind holds its width, and the mask of its mark its lane count
pub record ContainsType (m : Masks) (t : TypeParts) : Type 0 where
  pub is_type : IsType t
  pub width : Holds (width_mask m t.kind) t.width
  pub lanes : Holds (lane_mask m t.is_dynamic) t.lanes

-- the masks contain the number n: it is the number of a type that they contain
pub record ContainsNumber (m : Masks) (n : ℕ) : Type 0 where
  pub type_of : TypeParts
  pub contained : ContainsType m type_of
  pub numbered : number_of type_of ≡ n

-- the masks are those of the sets: each is the sum of the members of its set
pub record AreMasksOf (s : TypeSetParts) (m : Masks) : Type 0 where
  pub lanes : m.lanes ≡ sum s.lanes
  pub dynamic_lanes : m.dynamic_lanes ≡ sum s.dynamic_lanes
  pub ints : m.ints ≡ sum s.ints
  pub floats : m.floats ≡ sum s.floats
