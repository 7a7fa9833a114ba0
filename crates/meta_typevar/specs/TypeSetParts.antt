-- Sets of types, as contracts see them.
--     TypeSetParts               lane counts, dynamic lane counts, int widths and float widths
--     IsMember s t           t is a member of s
--     HasOne s               exactly one type is a member
--     IsTypeSet s            the four sets hold widths and lane counts of types alone
use Rattle.std.specs.Prelude.{◌≡◌, ℕ, Bool, true, false, List, [], Contains}
use Rattle.std.specs.List.{filter}
use Rattle.meta_types.specs.TypeParts.{NumberKind, IntKind, FloatKind, TypeParts, IsType, widths, lane_counts}

-- four sets of numbers, each as its rising list
pub record TypeSetParts : Type 0 where
  pub lanes : List ℕ
  pub dynamic_lanes : List ℕ
  pub ints : List ℕ
  pub floats : List ℕ

-- the set of the widths of a kind, and of the lane counts of a mark
abbrev pub widths_in : TypeSetParts → NumberKind → List ℕ
widths_in s IntKind = s.ints
widths_in s FloatKind = s.floats

abbrev pub lanes_in : TypeSetParts → Bool → List ℕ
lanes_in s false = s.lanes
lanes_in s true = s.dynamic_lanes

-- t is a member of s: its width is in the set of its kind, and its lane count in the set of its mark
pub record IsMember (s : TypeSetParts) (t : TypeParts) : Type 0 where
  pub is_type : IsType t
  pub width : Contains (widths_in s t.kind) t.width
  pub lanes : Contains (lanes_in s t.is_dynamic) t.lanes

-- t is the only member
pub record IsOnlyMember (s : TypeSetParts) (t : TypeParts) : Type 0 where
  pub member : IsMember s t
  pub only : (u : TypeParts) → IsMember s u → u ≡ t

-- exactly one type is a member
pub record HasOne (s : TypeSetParts) : Type 0 where
  pub one : TypeParts
  pub member : IsMember s one
  pub only : (t : TypeParts) → IsMember s t → t ≡ one

-- xs has some of the numbers of all, in their order
pub record IsPart (xs all : List ℕ) : Type 0 where
  pub test : ℕ → Bool
  pub is : xs ≡ filter test all

-- the sets hold widths and lane counts of types alone, each once and in rising order
pub record IsTypeSet (s : TypeSetParts) : Type 0 where
  pub lanes : IsPart s.lanes (lane_counts false)
  pub dynamic_lanes : IsPart s.dynamic_lanes (lane_counts true)
  pub ints : IsPart s.ints (widths IntKind)
  pub floats : IsPart s.floats (widths FloatKind)

-- the set without a member
abbrev pub no_types : TypeSetParts
no_types = record { lanes = []; dynamic_lanes = []; ints = []; floats = [] }
