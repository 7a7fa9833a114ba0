-- The arguments and the type parameters of the method that builds an instruction.
--     arguments_text vars c format      what stands between the round brackets
--     type_parameters inputs            what stands after the name, in angle brackets
use Rattle.std.specs.Prelude.{ℕ, ◌+◌, Bool, ◌||◌, List, [], ◌∷◌, ◌++◌, count_by, Option, None, Some, if◌then◌else◌, codes}
use Rattle.std.specs.List.{list_any, join_by}
use Rattle.std.specs.Fmt.{decimal}
use Rattle.meta_typevar.specs.declared.content.TypeVarContent.{TypeVarContent}
use Rattle.meta_operands.specs.declared.operand.Operand.{Operand}
use Rattle.meta_operands.specs.declared.format.InstructionFormat.{InstructionFormat}
use Rattle.meta_inst.specs.Built.{BuiltInstruction}
use Rattle.meta_inst.specs.FormatMatch.{is_block_operand, is_raw_block_operand}
use Rattle.meta_inst.specs.declared.polymorphic.PolymorphicInfo.{PolymorphicInfo}
use Rattle.meta_rust_text.specs.Arguments.{argument_text}
use Rattle.meta_rust_text.specs.Operands.{is_converted, is_mem_flags, variable_name}

-- what f gives for each operand and those before it, if the first has these before it
abbrev pub each_with_before : {A : Type 0} → (List Operand → Operand → List A) → List Operand → List Operand → List A
each_with_before f before [] = []
each_with_before f before (o ∷ others) = f before o ++ each_with_before f (before ++ o ∷ []) others

-- ---- type parameters

-- how many type parameters the arguments for these operands have: one for each that is converted, and the lifetime of the arguments of
-- blocks if there is a block
abbrev pub parameter_count : List Operand → ℕ
parameter_count operands = count_by is_converted operands + (if list_any is_block_operand operands then 1 else 0)

-- the type parameter of an operand that is converted and has these before it: a `T` and its number among the parameters, from 1
unfoldable pub parameter_name : List Operand → List ℕ
parameter_name before = codes "T" ++ decimal (parameter_count before + 1)

-- the type that the method takes for an operand: flags of a memory access are given as they are, and stored by the method
abbrev pub taken_type : Operand → List ℕ
taken_type o = if is_mem_flags o then codes "ir::MemFlagsData" else o.kind.rust_type

-- the bound of a type parameter of this name: that the argument converts into the Rust type of its kind, `: Into<ir::TrapCode>`
unfoldable pub bound_text : List ℕ → List ℕ → List ℕ
bound_text name converted = name ++ (codes ": Into<" ++ (converted ++ codes ">"))

-- the type parameter of the operand with its bound, if it has one
abbrev pub bound_of : List Operand → Operand → List (List ℕ)
bound_of before o = if is_converted o then (bound_text (parameter_name before) (taken_type o) ∷ []) else []

-- the lifetime of the arguments of blocks, if there is a block
abbrev pub lifetime_of : List Operand → List (List ℕ)
lifetime_of inputs = if list_any is_block_operand inputs then (codes "'a" ∷ []) else []

-- texts in angle brackets, separated by a comma and a space, and no text if there are none
abbrev pub in_angles : List (List ℕ) → List ℕ
in_angles [] = []
in_angles (first ∷ others) = codes "<" ++ (join_by (λ text. text) (codes ", ") (first ∷ others) ++ codes ">")

-- the type parameters, the lifetime first
unfoldable pub type_parameters : List Operand → List ℕ
type_parameters inputs = in_angles (lifetime_of inputs ++ each_with_before bound_of [] inputs)

-- ---- arguments

-- the two arguments for a block: the block, and what is passed to it
unfoldable pub block_arguments : List ℕ → List ℕ
block_arguments name =
    codes ", "
    ++ (name ++ (codes "_label: ir::Block, " ++ (name ++ codes "_args: impl IntoIterator<Item = &'a BlockArg>")))

-- the arguments for an operand that has these before it
unfoldable pub operand_arguments : List Operand → Operand → List ℕ
operand_arguments before o =
    if is_block_operand o then block_arguments o.name
    else (if is_raw_block_operand o then codes ", block: ir::Block"
    else (if is_converted o then argument_text o.name (parameter_name before)
    else argument_text o.name o.kind.rust_type))

-- the control, if it is an argument: if the instruction has one that isn't the type of the designated operand
abbrev pub asked_control : Option PolymorphicInfo → Option ℕ
asked_control None = None
asked_control (Some info) = if info.use_typevar_operand then None else Some info.ctrl_typevar

-- the argument for the control, if there is one
unfoldable pub control_argument : List TypeVarContent → Option ℕ → List ℕ
control_argument vars None = []
control_argument vars (Some tv) = argument_text (variable_name vars tv) (codes "crate::ir::Type")

-- whether the method changes the builder before it adds the instruction: it makes a list of values, stores what is passed to a
-- block, or stores flags of a memory access
abbrev pub changes_builder : List Operand → InstructionFormat → Bool
changes_builder inputs format = format.has_value_list || (list_any is_block_operand inputs || list_any is_mem_flags inputs)

-- the builder itself, which is the first argument
abbrev pub self_argument : List Operand → InstructionFormat → List ℕ
self_argument inputs format = if changes_builder inputs format then codes "mut self" else codes "self"

-- the builder, the control if it is an argument, and the inputs in order
unfoldable pub arguments_text : List TypeVarContent → BuiltInstruction → InstructionFormat → List ℕ
arguments_text vars c format =
    self_argument c.operands_in format
    ++ (control_argument vars (asked_control c.polymorphic_info) ++ each_with_before operand_arguments [] c.operands_in)
