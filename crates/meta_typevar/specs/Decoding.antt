-- Numbers of types by their lane code and their row, for masks.
use Rattle.std.specs.Prelude.{◌≡◌, ℕ, ◌+◌, Bool, Contains, if◌then◌else◌}
use Rattle.meta_types.specs.TypeParts.{NumberKind, widths, lane_counts, lane_code, log2}
use Rattle.meta_typevar.specs.Masks.{Holds, width_mask, lane_mask}
use Rattle.meta_typevar.specs.declared.masks.Masks.{Masks}

-- the code is that of a lane whose width the masks hold
pub record HoldsLane (m : Masks) (code : ℕ) : Type 0 where
  pub kind : NumberKind
  pub width : ℕ
  pub is_width : Contains (widths kind) width
  pub coded : lane_code kind width ≡ code
  pub held : Holds (width_mask m kind) width

-- the row, which is the exponent of the lane count and 8 more for a dynamic vector, has a lane count that the masks hold
pub record HoldsLanes (m : Masks) (row : ℕ) : Type 0 where
  pub is_dynamic : Bool
  pub lanes : ℕ
  pub is_count : Contains (lane_counts is_dynamic) lanes
  pub counted : log2 lanes + (if is_dynamic then 8 else 0) ≡ row
  pub held : Holds (lane_mask m is_dynamic) lanes
