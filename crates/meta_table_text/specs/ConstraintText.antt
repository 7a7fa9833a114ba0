-- The text of an operand constraint.
--     constraint_text c      the constraint as it is written: `Concrete(ir::types::I32)`, `Free(1)`, `Same`, `LaneOf2`
--     constraint_line c      its line in the table of operand constraints
--     constraints_comment cs the comment that lists the constraints of an opcode
use Rattle.std.specs.Prelude.{ℕ, ◌==◌, List, [], ◌∷◌, ◌++◌, map, Option, None, Some, codes}
use Rattle.std.specs.List.{find}
use Rattle.std.specs.Fmt.{decimal}
use Rattle.meta_types.specs.TypeParts.{TypeParts, number_of}
use Rattle.meta_types.specs.TypeText.{rust_name_of}
use Rattle.meta_types.specs.AllTypes.{all_types}
use Rattle.meta_types.specs.DerivedFunc.{camel_function_name}
use Rattle.meta_inst.specs.Which.{Which, First, Second}
use Rattle.meta_inst.specs.Tables.{NumberConstraint, ConcreteNumber, FreeOf, SameNumber, ByNumber}
use Rattle.meta_text.specs.Lines.{at, text_of}
use Rattle.meta_table_text.specs.TypeSetText.{parted}

-- the type that has the number, if one has it
unfoldable pub type_numbered : ℕ → Option TypeParts
type_numbered n = find (λ t. number_of t == n) all_types

-- the name in Rust source of a type, and nothing of none
abbrev pub rust_name_or_nothing : Option TypeParts → List ℕ
rust_name_or_nothing None = []
rust_name_or_nothing (Some t) = rust_name_of t

-- the name in Rust source of the type with this number: `ir::types::I32`. It is empty for a number that no type has
unfoldable pub type_text : ℕ → List ℕ
type_text n = rust_name_or_nothing (type_numbered n)

-- the mark that comes after the name of a constraint: nothing for the control, a digit for the second control
abbrev pub control_mark : Which → List ℕ
control_mark First = []
control_mark Second = codes "2"

-- the constraint: a type, a type set by its place, or what is asked by a control
abbrev pub constraint_text : NumberConstraint → List ℕ
constraint_text (ConcreteNumber n) = codes "Concrete(" ++ (type_text n ++ codes ")")
constraint_text (FreeOf j) = codes "Free(" ++ (decimal j ++ codes ")")
constraint_text (SameNumber which) = codes "Same" ++ control_mark which
constraint_text (ByNumber which f) = camel_function_name f ++ control_mark which

-- the line of a constraint
unfoldable pub constraint_line : NumberConstraint → List ℕ
constraint_line c = text_of (at 1 (codes "OperandConstraint::" ∷ constraint_text c ∷ codes "," ∷ []) ∷ [])

-- a constraint between single quotes
unfoldable pub quoted : NumberConstraint → List ℕ
quoted c = codes "'" ++ (constraint_text c ++ codes "'")

-- the constraints between single quotes, parted by a comma and a space
unfoldable pub quoted_all : List NumberConstraint → List ℕ
quoted_all cs = parted (map quoted cs)

-- the comment that lists constraints: `// Constraints=['Same', 'Free(1)']`
unfoldable pub constraints_comment : List NumberConstraint → List ℕ
constraints_comment cs = text_of (at 2 (codes "// Constraints=[" ∷ quoted_all cs ∷ codes "]" ∷ []) ∷ [])
