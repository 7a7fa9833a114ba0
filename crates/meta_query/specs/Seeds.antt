-- What is chosen for an instruction, by the number n of the declarations and that of the instruction.
--     seed_of n number      what the choices go by
--     shape_of seed         its shape
--     set_of_seed seed      the type set of its root variable
--     name_of_number number     its name
use Rattle.std.specs.Prelude.{ℕ, zero, suc, ◌+◌, ◌*◌, ◌/◌, ◌%◌, ◌^◌, ◌==◌, ◌&&◌, nat_le, Bool, true, false, not, List, [], ◌∷◌, ◌++◌, codes}
use Rattle.std.specs.Prelude.{if◌then◌else◌}
use Rattle.std.specs.Fmt.{decimal}
use Rattle.std.specs.List.{filter}
use Rattle.meta_types.specs.TypeParts.{IntKind, widths, lane_counts}
use Rattle.meta_typevar.specs.TypeSetParts.{TypeSetParts}
use Rattle.meta_query.specs.declared.shape.Shape.{Shape}
use Rattle.meta_query.specs.declared.shape.Shape.TheVariants.{Bare, Copying, Comparing, Widening}

-- what the choices go by: the instruction's number, and n up to multiples of 24
abbrev pub seed_of : ℕ → ℕ → ℕ
seed_of n number = number + n % 24

-- four shapes, in turn
abbrev pub shape_at : ℕ → Shape
shape_at zero = Bare
shape_at (suc zero) = Copying
shape_at (suc (suc zero)) = Comparing
shape_at (suc (suc (suc n))) = Widening

abbrev pub shape_of : ℕ → Shape
shape_of seed = shape_at (seed % 4)

-- the least width of X: 8, 16 and 32, in turn
abbrev pub least_width_of : ℕ → ℕ
least_width_of seed = 8 * 2 ^ (seed / 4 % 3)

abbrev pub is_widening : Shape → Bool
is_widening Bare = false
is_widening Copying = false
is_widening Comparing = false
is_widening Widening = true

-- whether X has vectors too: for twelve seeds it has none, and for the next twelve it has, but where a value is widened
abbrev pub has_vectors : ℕ → Bool
has_vectors seed = (seed / 12 % 2 == 1) && not (is_widening (shape_of seed))

-- the integers from this width to 128 bits, scalars alone, or with 1 to 256 lanes
abbrev pub ints_from : ℕ → Bool → TypeSetParts
ints_from least vectors = record {
  lanes = if vectors then lane_counts false else 1 ∷ [];
  dynamic_lanes = [];
  ints = filter (λ w. nat_le least w && nat_le w 128) (widths IntKind);
  floats = [];
}

-- the type set of X
abbrev pub set_of_seed : ℕ → TypeSetParts
set_of_seed seed = ints_from (least_width_of seed) (has_vectors seed)

-- `op_` and the number
abbrev pub name_of_number : ℕ → List ℕ
name_of_number number = codes "op_" ++ decimal number
