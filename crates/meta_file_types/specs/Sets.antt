-- Sets of types, as an item gives them by parts.
--     wrong_parts above parts     what is wrong with the first wrong one of the parts, after those above, or else with all of them
--     set_of_parts parts          the set that parts give
use Rattle.std.specs.Prelude.{ℕ, ◌&&◌, ◌==◌, nat_le, nat_lt, not, Bool, true, false, List, [], ◌∷◌, ◌++◌, Option, Some, None}
use Rattle.std.specs.Prelude.{if◌then◌else◌}
use Rattle.std.specs.List.{filter, find, list_any}
use Rattle.std.specs.Option.{option_or}
use Rattle.meta_types.specs.TypeParts.{IntKind, FloatKind, widths, lane_counts}
use Rattle.meta_typevar.specs.TypeSetParts.{TypeSetParts}
use Rattle.meta_file_syntax.specs.declared.types.Dimension.{Dimension}
use Rattle.meta_file_syntax.specs.declared.types.Dimension.TheVariants as dimensions
use Rattle.meta_file_syntax.specs.declared.types.Span.{Span}
use Rattle.meta_file_syntax.specs.declared.types.Members.{Members}
use Rattle.meta_file_syntax.specs.declared.types.Members.TheVariants as members
use Rattle.meta_file_syntax.specs.declared.types.Part.{Part}
use Rattle.meta_file_types.specs.declared.refused.Reason.{Reason}
use Rattle.meta_file_types.specs.declared.refused.Reason.TheVariants.{PartTwice, NoNumber, EmptyRange, DynamicAlone}

-- ---- dimensions

-- the numbers that a part may have
abbrev pub numbers_of : Dimension → List ℕ
numbers_of dimensions.Lanes = lane_counts false
numbers_of dimensions.Dynamic = lane_counts true
numbers_of dimensions.Ints = widths IntKind
numbers_of dimensions.Floats = widths FloatKind

-- what a set has of a dimension that no part gives
abbrev pub left_out : Dimension → List ℕ
left_out dimensions.Lanes = 1 ∷ []
left_out dimensions.Dynamic = []
left_out dimensions.Ints = []
left_out dimensions.Floats = []

-- their order
abbrev pub place_in_order : Dimension → ℕ
place_in_order dimensions.Lanes = 0
place_in_order dimensions.Dynamic = 1
place_in_order dimensions.Ints = 2
place_in_order dimensions.Floats = 3

-- whether a part is of the dimension
abbrev pub is_of : Dimension → Part → Bool
is_of d p = place_in_order p.dimension == place_in_order d

-- ---- members

-- the high end of a range; a number is a range by itself
abbrev pub high_or : ℕ → Option ℕ → ℕ
high_or low None = low
high_or low (Some high) = high

abbrev pub high_end : Span → ℕ
high_end s = high_or s.low s.high

-- whether a number is in the range, both ends included
abbrev pub in_span : ℕ → Span → Bool
in_span n s = nat_le s.low n && nat_le n (high_end s)

-- whether a number, of those that the part may have, is one of its members
abbrev pub is_member : Members → ℕ → Bool
is_member members.All n = true
is_member members.Nothing n = false
is_member (members.Spans spans) n = list_any (in_span n) spans

-- ---- the set

-- what the first part of the dimension has, or else what is there where it is left out
abbrev pub members_by : Dimension → Option Part → List ℕ
members_by d None = left_out d
members_by d (Some p) = filter (is_member p.members) (numbers_of d)

abbrev pub numbers_by : List Part → Dimension → List ℕ
numbers_by parts d = members_by d (find (is_of d) parts)

abbrev pub set_of_parts : List Part → TypeSetParts
set_of_parts parts = record {
  lanes = numbers_by parts dimensions.Lanes;
  dynamic_lanes = numbers_by parts dimensions.Dynamic;
  ints = numbers_by parts dimensions.Ints;
  floats = numbers_by parts dimensions.Floats;
}

-- ---- what is wrong with parts

-- whether a part of this dimension may have the number
abbrev pub may_have : Dimension → ℕ → Bool
may_have d k = list_any (λ n. n == k) (numbers_of d)

-- with a span of a part of this dimension: one of its ends isn't a number that the part may have, or it is empty
abbrev pub wrong_span : Dimension → Span → Option Reason
wrong_span d s =
    if not (may_have d s.low) then Some (NoNumber d s.low)
    else (if not (may_have d (high_end s)) then Some (NoNumber d (high_end s))
    else (if nat_lt (high_end s) s.low then Some (EmptyRange s.low (high_end s)) else None))

-- with the first wrong one of spans
abbrev pub wrong_spans : Dimension → List Span → Option Reason
wrong_spans d [] = None
wrong_spans d (s ∷ ss) = option_or (wrong_span d s) (wrong_spans d ss)

abbrev pub wrong_members : Dimension → Members → Option Reason
wrong_members d members.All = None
wrong_members d members.Nothing = None
wrong_members d (members.Spans spans) = wrong_spans d spans

-- with a part after others: its dimension stands above, or one of its spans is wrong
abbrev pub wrong_part : List Part → Part → Option Reason
wrong_part above p =
    if list_any (is_of p.dimension) above then Some (PartTwice p.dimension) else wrong_members p.dimension p.members

-- with the first wrong one of parts, or else with all: dynamic lane counts stand without lane counts
abbrev pub are_without_lanes : List Part → Bool
are_without_lanes parts = list_any (is_of dimensions.Dynamic) parts && not (list_any (is_of dimensions.Lanes) parts)

abbrev pub wrong_parts : List Part → List Part → Option Reason
wrong_parts above [] = if are_without_lanes above then Some DynamicAlone else None
wrong_parts above (p ∷ ps) = option_or (wrong_part above p) (wrong_parts (above ++ p ∷ []) ps)
