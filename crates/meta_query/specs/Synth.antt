-- The declarations that are made from a number.
--     variables_to n k                     the variables of the first k instructions
--     IsInstruction vars n number x b      b is the instruction with this number, and x its root variable
--     AreInstructions vars n all           these are the first instructions
--     IsSynth n d                          d are the declarations of n
use Rattle.std.specs.Prelude.{◌≡◌, ◌<◌, ◌≤◌, ◌+◌, ℕ, zero, suc, List, [], ◌∷◌, ◌++◌, length, slice_get, Some, None, codes}
use Rattle.std.specs.List.{AllZip}
use Rattle.meta_types.specs.DerivedFunc.{function_of}
use Rattle.meta_types.specs.declared.derived_func.DerivedFunc.{DerivedFunc}
use Rattle.meta_types.specs.declared.derived_func.DerivedFunc.TheVariants.{AsTruthy, Narrower}
use Rattle.meta_typevar.specs.TypeSetParts.{TypeSetParts}
use Rattle.meta_typevar.specs.Variable.{Variable}
use Rattle.meta_typevar.specs.Registry.{variable_at, root_content, derived_name, IsKept, IsRegistry}
use Rattle.meta_typevar.specs.declared.content.TypeVarContent.{TypeVarContent}
use Rattle.meta_operands.specs.Kind.{doc_of_kind}
use Rattle.meta_operands.specs.Operand.{own_doc}
use Rattle.meta_operands.specs.declared.kind.OperandKindFields.TheVariants.{TypeVar}
use Rattle.meta_operands.specs.declared.operand.Operand.{Operand}
use Rattle.meta_inst.specs.Builder.{Builder, inputs_of, outputs_of}
use Rattle.meta_inst.specs.Marks.{no_marks}
use Rattle.meta_build.specs.AllDeclared.{Declared}
use Rattle.meta_query.specs.declared.shape.Shape.{Shape}
use Rattle.meta_query.specs.declared.shape.Shape.TheVariants.{Bare, Copying, Comparing, Widening}
use Rattle.meta_query.specs.Shapes.{inputs_for, outputs_for, format_of, all_formats}
use Rattle.meta_query.specs.Seeds.{seed_of, shape_of, set_of_seed, name_of_number}

-- the operand is a value of this name and variable, without a doc
pub record IsValueOf (vars : List TypeVarContent) (expected : List ℕ × Variable) (o : Operand) : Type 0 where
  pub name : o.name ≡ expected.0
  pub doc : own_doc o ≡ None
  pub number : ℕ
  pub of : number < length vars
  pub variable : variable_at vars number ≡ expected.1
  pub fields : o.kind.fields ≡ TypeVar number
  pub field_name : o.kind.rust_field_name ≡ codes "value"
  pub rust_type : o.kind.rust_type ≡ codes "ir::Value"
  pub kind_doc : doc_of_kind o.kind ≡ None

-- the variables old, and after them at most n more
pub record Extends (n : ℕ) (old new : List TypeVarContent) : Type 0 where
  pub more : List TypeVarContent
  pub is : new ≡ old ++ more
  pub few : length more ≤ n

-- what is kept of the root X with this type set, whose number is x
abbrev pub root_with : TypeSetParts → ℕ → TypeVarContent
root_with s x = root_content (codes "X") [] s x

-- what is kept of the variable that is derived from it by f
abbrev pub derived_with : TypeSetParts → ℕ → DerivedFunc → TypeVarContent
derived_with s x f = record {
  name = derived_name (function_of f) (codes "X");
  doc = [];
  base = Some (record { type_var = x; derived_func = f });
  type_set = s;
  root = x;
  chain = function_of f ∷ [];
}

-- the variables that are derived from it for an instruction of this shape
abbrev pub derived_for : Shape → TypeSetParts → ℕ → List TypeVarContent
derived_for Bare s x = []
derived_for Copying s x = []
derived_for Comparing s x = derived_with s x AsTruthy ∷ []
derived_for Widening s x = derived_with s x Narrower ∷ []

-- the variables of the instruction with this number in the declarations of n: its root, which is the one with the number x, and
-- what is derived from that
abbrev pub variables_of_number : ℕ → ℕ → ℕ → List TypeVarContent
variables_of_number n number x = root_with (set_of_seed (seed_of n number)) x ∷ derived_for
    (shape_of (seed_of n number)) (set_of_seed (seed_of n number)) x

-- the variables of the first k instructions, in the order of the instructions
unfoldable pub variables_to : ℕ → ℕ → List TypeVarContent
variables_to n zero = []
variables_to n (suc k) = variables_to n k ++ variables_of_number n (suc k) (length (variables_to n k))

-- b is the instruction with this number in the declarations of n, counted from 1, and its root variable is x: a root named `X`
-- with its type set. It has its name and the format of its shape, its inputs and outputs were set and are those of its shape, and it
-- has no doc, no mark and no second control.
pub record IsInstruction (vars : List TypeVarContent) (n number x : ℕ) (b : Builder) : Type 0 where
  pub root : IsKept vars x (root_with (set_of_seed (seed_of n number)) x)
  pub name : b.name ≡ name_of_number number
  pub doc : b.doc ≡ []
  pub format : b.format ≡ format_of (shape_of (seed_of n number))
  pub inputs : AllZip (IsValueOf vars) (inputs_for (shape_of (seed_of n number)) x) (inputs_of b)
  pub outputs : AllZip (IsValueOf vars) (outputs_for (shape_of (seed_of n number)) x) (outputs_of b)
  pub inputs_set : b.operands_in ≡ Some (inputs_of b)
  pub outputs_set : b.operands_out ≡ Some (outputs_of b)
  pub marks : b.marks ≡ no_marks
  pub second : b.second ≡ None

-- these are the first instructions in the declarations of n, in order; the variables are theirs and no others, and each has the
-- first of its own as root variable
pub record AreInstructions (vars : List TypeVarContent) (n : ℕ) (all : List Builder) : Type 0 where
  pub variables : vars ≡ variables_to n (length all)
  pub each : (k : ℕ) (b : Builder) → slice_get all k ≡ Some b → IsInstruction vars n (k + 1) (length (variables_to n k)) b

-- d are the declarations of n: three formats, 255 instructions, their variables, which are a registry of at most two for each,
-- and no groups of settings
pub record IsSynth (n : ℕ) (d : Declared) : Type 0 where
  pub formats : d.set.formats ≡ all_formats
  pub instructions : AreInstructions d.set.vars n d.set.instructions
  pub count : length d.set.instructions ≡ 255
  pub registry : IsRegistry d.set.vars
  pub few : length d.set.vars ≤ 510
  pub groups : d.groups ≡ []
