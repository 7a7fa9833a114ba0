-- The coded image of a set: what the sets of a variable become under a derived function. It bounds the types that the
-- function gives, and is not always the set of them: the relations leave a set as it is.
--     image_of f s           the image of the set s under f
--     can_derive f s         whether a variable with the coded set s may be derived from by f
use Rattle.std.specs.Prelude.{ℕ, ◌*◌, ◌/◌, ◌==◌, ◌&&◌, ◌||◌, not, nat_lt, Bool, true, false, List, [], ◌∷◌, map, if◌then◌else◌}
use Rattle.std.specs.List.{filter, list_all}
use Rattle.meta_types.specs.TypeParts.{IntKind, widths}
use Rattle.meta_types.specs.Function.{Function, LaneOf, AsTruthy, HalfWidth, DoubleWidth, SplitLanes, MergeLanes, DynamicToVector, Narrower}
use Rattle.meta_types.specs.Function.{Wider}
use Rattle.meta_typevar.specs.TypeSetParts.{TypeSetParts}

-- half of each number above the least one, which can't be halved
abbrev pub halves : ℕ → List ℕ → List ℕ
halves least xs = map (λ x. x / 2) (filter (nat_lt least) xs)

-- twice each number below the greatest one, which can't be doubled
abbrev pub doubles : ℕ → List ℕ → List ℕ
doubles greatest xs = map (λ x. 2 * x) (filter (λ x. nat_lt x greatest) xs)

-- whether the number is in the list
abbrev pub is_among : List ℕ → ℕ → Bool
is_among [] n = false
is_among (x ∷ xs) n = (x == n) || is_among xs n

-- one lane, and nothing else
abbrev pub is_one_lane : List ℕ → Bool
is_one_lane [] = false
is_one_lane (x ∷ []) = x == 1
is_one_lane (x ∷ y ∷ ys) = false

-- the int widths of as_truthy: 8 where there are scalars alone, and else the int and the float widths
abbrev pub truthy_ints : TypeSetParts → List ℕ
truthy_ints s = if is_one_lane s.lanes then 8 ∷ [] else filter (λ w. is_among s.ints w || is_among s.floats w) (widths IntKind)

-- the image of a set under a derived function
abbrev pub image_of : Function → TypeSetParts → TypeSetParts
-- one lane; the dynamic lanes stay
image_of LaneOf s = record s { lanes = 1 ∷ [] }
-- no floats are left
image_of AsTruthy s = record s { ints = truthy_ints s; floats = [] }
-- half and twice the widths
image_of HalfWidth s = record s { ints = halves 8 s.ints; floats = halves 16 s.floats }
image_of DoubleWidth s = record s { ints = doubles 128 s.ints; floats = doubles 128 s.floats }
-- half the widths and twice the lanes, and the other way round; the dynamic lanes stay
image_of SplitLanes s = record s { lanes = doubles 256 s.lanes; ints = halves 8 s.ints; floats = halves 16 s.floats }
image_of MergeLanes s = record s { lanes = halves 1 s.lanes; ints = doubles 128 s.ints; floats = doubles 128 s.floats }
-- the dynamic lanes below 256 become the lanes
image_of DynamicToVector s = record s { lanes = filter (λ n. nat_lt n 256) s.dynamic_lanes; dynamic_lanes = [] }
-- the relations leave the set as it is
image_of Narrower s = s
image_of Wider s = s

-- each width is above the least one of its kind
abbrev pub can_halve : TypeSetParts → Bool
can_halve s = list_all (nat_lt 8) s.ints && list_all (nat_lt 16) s.floats

-- each width is below 128
abbrev pub can_double : TypeSetParts → Bool
can_double s = list_all (λ w. nat_lt w 128) s.ints && list_all (λ w. nat_lt w 128) s.floats

-- whether the set has a number
abbrev pub has_some : List ℕ → Bool
has_some [] = false
has_some (x ∷ xs) = true

-- there are scalars alone, of some width
abbrev pub has_scalars_alone : TypeSetParts → Bool
has_scalars_alone s = is_one_lane s.lanes && (not (has_some s.dynamic_lanes) && (has_some s.ints || has_some s.floats))

-- whether a variable with the coded set s may be derived from by the function
abbrev pub can_derive : Function → TypeSetParts → Bool
can_derive LaneOf s = true
can_derive AsTruthy s = true
can_derive HalfWidth s = can_halve s
can_derive DoubleWidth s = can_double s
-- some lanes, each below 256
can_derive SplitLanes s = can_halve s && (has_some s.lanes && list_all (λ n. nat_lt n 256) s.lanes)
-- some lanes, each above 1
can_derive MergeLanes s = can_double s && (has_some s.lanes && list_all (nat_lt 1) s.lanes)
can_derive DynamicToVector s = true
can_derive Narrower s = has_scalars_alone s
can_derive Wider s = has_scalars_alone s
