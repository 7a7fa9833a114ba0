-- Sets of types, as a `type` item of the language has them.
--     least_set ns           the least set that has these types
--     is_one_set ns          whether it has no other type
--     spans_of xs            powers of two as spans
use Rattle.std.specs.Prelude.{ℕ, ◌*◌, ◌==◌, ◌&&◌, Bool, true, false, List, [], ◌∷◌, Option, None, Some, map, if◌then◌else◌}
use Rattle.std.specs.List.{filter, list_any, list_all}
use Rattle.meta_types.specs.TypeParts.{NumberKind, IntKind, FloatKind, TypeParts, widths, lane_counts, number_of}
use Rattle.meta_types.specs.TypeNumber.{type_with}
use Rattle.meta_types.specs.Function.{same_kind, same_mark}
use Rattle.meta_types.specs.AllTypes.{all_types}
use Rattle.meta_typevar.specs.Image.{is_among}
use Rattle.meta_typevar.specs.TypeSetParts.{TypeSetParts, widths_in, lanes_in}
use Rattle.meta_typevar.specs.MaskSets.{sets_in}
use Rattle.meta_typevar.specs.declared.masks.Masks.{Masks}

-- whether one of the types has this mark and this count of lanes
abbrev pub has_lanes : List ℕ → Bool → ℕ → Bool
has_lanes ns is_dynamic lanes =
    list_any (λ n. same_mark (type_with n).is_dynamic is_dynamic && ((type_with n).lanes == lanes)) ns

-- whether one of the types has this kind and this width
abbrev pub has_width : List ℕ → NumberKind → ℕ → Bool
has_width ns kind width = list_any (λ n. same_kind (type_with n).kind kind && ((type_with n).width == width)) ns

-- the least set that has the types with these numbers: the lane counts and the widths that stand at some of them
abbrev pub least_set : List ℕ → TypeSetParts
least_set ns = record {
  lanes = filter (has_lanes ns false) (lane_counts false);
  dynamic_lanes = filter (has_lanes ns true) (lane_counts true);
  ints = filter (has_width ns IntKind) (widths IntKind);
  floats = filter (has_width ns FloatKind) (widths FloatKind);
}

-- whether the type is one of the set
abbrev pub is_in : TypeSetParts → TypeParts → Bool
is_in s t = is_among (widths_in s t.kind) t.width && is_among (lanes_in s t.is_dynamic) t.lanes

-- the numbers of all types, in rising order, and those of the types of a set
abbrev pub type_numbers : List ℕ
type_numbers = map number_of all_types

abbrev pub numbers_in : TypeSetParts → List ℕ
numbers_in s = filter (λ n. is_in s (type_with n)) type_numbers

-- those of the type set with these masks, if there is one
abbrev pub numbers_held : Option Masks → List ℕ
numbers_held None = []
numbers_held (Some m) = numbers_in (sets_in m)

-- whether the types with these numbers are exactly one set: each type of the least set that has them is one of them
abbrev pub is_one_set : List ℕ → Bool
is_one_set ns = list_all (is_among ns) (numbers_in (least_set ns))

-- the span that is open from low to high, and the spans of what follows: it goes on as long as the next number is twice the last one
abbrev pub spans_from : ℕ → ℕ → List ℕ → List (ℕ × ℕ)
spans_from low high [] = (low, high) ∷ []
spans_from low high (x ∷ xs) = if x == 2 * high then spans_from low x xs else ((low, high) ∷ spans_from x x xs)

-- rising powers of two as spans, each from its least to its greatest, with a gap between each two
abbrev pub spans_of : List ℕ → List (ℕ × ℕ)
spans_of [] = []
spans_of (x ∷ xs) = spans_from x x xs
