-- The texts of types, of sets of types, and of reasons why types aren't accepted.
--     type_text n                    the name of a type
--     set_text ns                    a set of types, as a `type` item has it where one can
--     alternatives_text ns           types, by their names
--     place_text p count             a part of what is asked
--     held_text p c rs vs            what a part has
--     wants_text w                   what a part has to be
--     demand_text sets x             an operand, as it goes by the controls
use Rattle.std.specs.Prelude.{ℕ, nat_lt, ◌-◌, ◌==◌, ◌||◌, not, Bool, true, false, List, [], ◌∷◌, ◌++◌, length, slice_get, Option, None, Some}
use Rattle.std.specs.Prelude.{codes, if◌then◌else◌}
use Rattle.std.specs.List.{flat_map, join_by}
use Rattle.std.specs.Fmt.{decimal}
use Rattle.meta_types.specs.TypeParts.{NumberKind, IntKind, FloatKind, widths, lane_counts, name_of}
use Rattle.meta_types.specs.TypeNumber.{type_with}
use Rattle.meta_types.specs.DerivedFunc.{function_name}
use Rattle.meta_typevar.specs.Image.{has_some, is_one_lane}
use Rattle.meta_typevar.specs.TypeSetParts.{TypeSetParts}
use Rattle.meta_typevar.specs.declared.masks.Masks.{Masks}
use Rattle.meta_inst.specs.Which.{Which, First, Second as SecondControl}
use Rattle.meta_inst.specs.Tables.{NumberConstraint, ConcreteNumber, FreeOf, SameNumber, ByNumber}
use Rattle.meta_explain.specs.Sets.{least_set, is_one_set, numbers_held, spans_of}
use Rattle.meta_explain.specs.declared.control_types.ControlTypes.{ControlTypes}
use Rattle.meta_explain.specs.declared.part.Part.{Part}
use Rattle.meta_explain.specs.declared.part.Part.TheVariants.{Control, Second, ResultCount, ValueCount, Operand}
use Rattle.meta_explain.specs.declared.explained.Wanted.{Wanted}
use Rattle.meta_explain.specs.declared.explained.Wanted.TheVariants.{Nothing, Types, Count}

-- ---- types

-- the name of the type with this number
abbrev pub type_text : ℕ → List ℕ
type_text n = name_of (type_with n)

-- the name of the type, or `-` where there is none
abbrev pub optional_text : Option ℕ → List ℕ
optional_text None = codes "-"
optional_text (Some n) = type_text n

-- the name of one more type, after `|`, and those of more types
abbrev pub next_text : ℕ → List ℕ
next_text n = codes "|" ++ type_text n

abbrev pub more_text : List ℕ → List ℕ
more_text ns = flat_map next_text ns

-- types by their names, parted by `|`, or `none`
abbrev pub alternatives_text : List ℕ → List ℕ
alternatives_text [] = codes "none"
alternatives_text (n ∷ ns) = type_text n ++ more_text ns

-- ---- sets

-- a span: `8..64`, or `8` for a number alone
abbrev pub span_text : ℕ × ℕ → List ℕ
span_text (low, high) = if low == high then decimal low else (decimal low ++ (codes ".." ++ decimal high))

-- some numbers of a dimension that has `all`: ` all`, ` none`, or their spans, each after a blank
abbrev pub members_text : List ℕ → List ℕ → List ℕ
members_text all [] = codes " none"
members_text all (x ∷ xs) =
    if length (x ∷ xs) == length all then codes " all" else flat_map (λ (span : ℕ × ℕ). 32 ∷ span_text span) (spans_of (x ∷ xs))

-- a part of a set, if it is shown: `lanes 1..4`
abbrev pub part_texts : Bool → List ℕ → List ℕ → List ℕ → List (List ℕ)
part_texts true name all xs = (name ++ members_text all xs) ∷ []
part_texts false name all xs = []

-- whether the lane counts are shown: they are left out where there are scalars alone
abbrev pub shows_lanes : TypeSetParts → Bool
shows_lanes s = has_some s.dynamic_lanes || not (is_one_lane s.lanes)

-- a set as a `type` item has it: `lanes 1..4, dynamic 2..8, ints 8..64, floats 32..64`
abbrev pub item_text : TypeSetParts → List ℕ
item_text s = join_by (λ p. p) (codes ", ")
    (((part_texts (shows_lanes s) (codes "lanes") (lane_counts false) s.lanes
    ++ part_texts (has_some s.dynamic_lanes) (codes "dynamic") (lane_counts true) s.dynamic_lanes)
    ++ part_texts (has_some s.ints) (codes "ints") (widths IntKind) s.ints)
    ++ part_texts (has_some s.floats) (codes "floats") (widths FloatKind) s.floats)

-- types: several that are exactly one set as a `type` item has it, and any others by their names
abbrev pub set_text : List ℕ → List ℕ
set_text ns = if nat_lt (length ns) 2 || not (is_one_set ns) then alternatives_text ns else item_text (least_set ns)

-- ---- parts of what is asked

-- the part, where there are so many results: `result 0`, `value 1`
abbrev pub place_text : Part → ℕ → List ℕ
place_text Control count = codes "control"
place_text Second count = codes "second control"
place_text ResultCount count = codes "results"
place_text ValueCount count = codes "values"
place_text (Operand k) count =
    if nat_lt k count then codes "result " ++ decimal k else (codes "value " ++ decimal (k - count))

-- what the part has: the type of the control or of the operand, `-` where there is none, or the count
abbrev pub had_text : Part → ControlTypes → List ℕ → List ℕ → List ℕ
had_text Control c rs vs = optional_text c.ctrl
had_text Second c rs vs = optional_text c.second
had_text ResultCount c rs vs = decimal (length rs)
had_text ValueCount c rs vs = decimal (length vs)
had_text (Operand k) c rs vs = optional_text (slice_get (rs ++ vs) k)

-- `has i64`
abbrev pub held_text : Part → ControlTypes → List ℕ → List ℕ → List ℕ
held_text p c rs vs = codes "has " ++ had_text p c rs vs

-- what a part has to be: `-` for no control, the types, or the count
abbrev pub wanted_text : Wanted → List ℕ
wanted_text Nothing = codes "-"
wanted_text (Types ns) = set_text ns.items
wanted_text (Count n) = decimal n

-- `wants ints 8..64`
abbrev pub wants_text : Wanted → List ℕ
wants_text w = codes "wants " ++ wanted_text w

-- ---- operands by the controls

-- the control: `T`, and the second one `U`
abbrev pub control_letter : Which → List ℕ
control_letter First = codes "T"
control_letter SecondControl = codes "U"

-- what an operand with this constraint is, under these type sets: `i32`, `(ints 8..64)`, `T`, `narrower(T)`
abbrev pub demand_text : List Masks → NumberConstraint → List ℕ
demand_text sets (ConcreteNumber n) = type_text n
demand_text sets (FreeOf j) = codes "(" ++ (set_text (numbers_held (slice_get sets j)) ++ codes ")")
demand_text sets (SameNumber a) = control_letter a
demand_text sets (ByNumber a f) = function_name f ++ (codes "(" ++ (control_letter a ++ codes ")"))
