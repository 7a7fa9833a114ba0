-- The text of the instruction builder.
--     builder_text b      the text of what is built of declarations
use Rattle.std.specs.Prelude.{◌≡◌, ℕ, List, [], ◌∷◌, ◌++◌, slice_get, Option, None, Some, if◌then◌else◌, codes}
use Rattle.std.specs.List.{flat_map, join_by}
use Rattle.meta_text.specs.Lines.{at, text_of}
use Rattle.meta_text.specs.Ends.{gap_text, item_end}
use Rattle.meta_typevar.specs.declared.content.TypeVarContent.{TypeVarContent}
use Rattle.meta_operands.specs.Operand.{variables_of}
use Rattle.meta_operands.specs.declared.format.InstructionFormat.{InstructionFormat}
use Rattle.meta_inst.specs.Built.{BuiltInstruction}
use Rattle.meta_inst.specs.Operands.{AreOf}
use Rattle.meta_build.specs.BuiltDeclarations.{BuiltDeclarations}
use Rattle.meta_rust_text.specs.Constructor.{constructor_text}
use Rattle.meta_rust_text.specs.ImmBuilders.{imm_builders_text}
use Rattle.meta_rust_text.specs.InstBuilder.{inst_builder_text}

-- the variables of the instruction's operands are of the registry
pub record HasVariablesOf (vars : List TypeVarContent) (c : BuiltInstruction) : Type 0 where
  pub inputs : AreOf vars (variables_of c.operands_in)
  pub outputs : AreOf vars (variables_of c.operands_out)

-- the same of each instruction
abbrev pub HaveVariablesOf : List TypeVarContent → List BuiltInstruction → Type 0
HaveVariablesOf vars instructions = (k : ℕ) (c : BuiltInstruction) → slice_get instructions k ≡ Some c → HasVariablesOf vars c

-- ---- instructions

-- the method that builds an instruction of this format, and an empty line; a built instruction has a format
unfoldable pub method_text : List TypeVarContent → BuiltInstruction → Option InstructionFormat → List ℕ
method_text vars c None = []
method_text vars c (Some format) = inst_builder_text vars c format ++ gap_text

-- the methods that take an immediate for its last value, and an empty line, if the instruction asks for them
unfoldable pub imm_methods_text : List TypeVarContent → BuiltInstruction → List ℕ
imm_methods_text vars c = if c.marks.inst_builder_imm_method then (imm_builders_text vars c ++ gap_text) else []

-- the methods that build an instruction
unfoldable pub methods_text : List TypeVarContent → List InstructionFormat → BuiltInstruction → List ℕ
methods_text vars formats c = method_text vars c (slice_get formats c.format) ++ imm_methods_text vars c

-- ---- formats

-- the constructor of a format
abbrev pub constructor_of : Option InstructionFormat → List ℕ
constructor_of None = []
constructor_of (Some format) = constructor_text format

-- the constructor of the format with this number
unfoldable pub constructor_at : List InstructionFormat → ℕ → List ℕ
constructor_at formats number = constructor_of (slice_get formats number)

-- the constructors of the formats with these numbers, with an empty line between each two
unfoldable pub constructors_text : List InstructionFormat → List ℕ → List ℕ
constructors_text formats numbers = join_by (constructor_at formats) gap_text numbers

-- ---- the whole text

-- the documentation and the head of the trait
unfoldable pub trait_head : List ℕ
trait_head = text_of (
    at 0 (codes "/// Convenience methods for building instructions." ∷ [])
    ∷ at 0 (codes "pub trait InstBuilder<'f>: InstBuilderBase<'f> {" ∷ []) ∷ [])

-- A trait with the methods that build each instruction, in order, and after one more empty line the constructors of the formats in use, by
-- their names.
unfoldable pub builder_text : BuiltDeclarations → List ℕ
builder_text b =
    trait_head
    ++ (flat_map (methods_text b.declared.set.vars b.declared.set.formats) b.instructions
    ++ (gap_text ++ (constructors_text b.declared.set.formats b.formats ++ item_end)))
