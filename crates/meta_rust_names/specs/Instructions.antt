-- The names of an instruction.
--     name_why b c                     why it can't have its own
--     instruction_refused b at         all that are refused
use Rattle.std.specs.Prelude.{ℕ, ◌+◌, Bool, ◌&&◌, List, [], ◌++◌, slice_get, Option, None, Some, if◌then◌else◌, codes}
use Rattle.std.specs.List.{flat_map, enumerate_from}
use Rattle.meta_types.specs.declared.fault.Place.{Place}
use Rattle.meta_types.specs.declared.fault.Place.TheVariants.{Instruction}
use Rattle.meta_typevar.specs.declared.content.TypeVarContent.{TypeVarContent}
use Rattle.meta_operands.specs.Texts.{same_text}
use Rattle.meta_operands.specs.Operand.{doc_at, doc_of}
use Rattle.meta_operands.specs.declared.operand.Operand.{Operand}
use Rattle.meta_operands.specs.declared.format.InstructionFormat.{InstructionFormat}
use Rattle.meta_inst.specs.Built.{BuiltInstruction}
use Rattle.meta_build.specs.BuiltDeclarations.{BuiltDeclarations}
use Rattle.meta_rust_text.specs.Operands.{variable_name}
use Rattle.meta_rust_text.specs.MethodArguments.{asked_control}
use Rattle.meta_rust_names.specs.declared.refused.Why.{Why}
use Rattle.meta_rust_names.specs.declared.refused.Why.TheVariants.{Keyword, SelfType, FixedMethod, FormatName, ImmMethod}
use Rattle.meta_rust_names.specs.declared.refused.Why.TheVariants.{ImmControl, ListLocal, OfInput}
use Rattle.meta_rust_names.specs.declared.refused.Part.TheVariants.{Name, Output, OutputDoc, Doc, Control, ControlDoc}
use Rattle.meta_rust_names.specs.declared.refused.RefusedName.{RefusedName}
use Rattle.meta_rust_names.specs.Refused.{or_why, refused}
use Rattle.meta_rust_names.specs.Words.{is_keyword, word_why}
use Rattle.meta_rust_names.specs.Comments.{comment_why, doc_why}
use Rattle.meta_rust_names.specs.Forms.{is_named, meets}
use Rattle.meta_rust_names.specs.Methods.{is_among, is_form, is_base_method, format_names, imm_methods, method_name}
use Rattle.meta_rust_names.specs.Inputs.{inputs_refused, names_of_input}

-- ---- its own name

-- The instruction is a method of the builder and, in camel case, a variant of `Opcode`. Formats have methods of the same trait, and
-- so have the immediate methods of all instructions. `return` is written `return_`.
unfoldable pub own_name_why : (List ℕ → Bool) → (List ℕ → Bool) → List ℕ → List ℕ → Option Why
own_name_why is_format is_imm camel method =
    if is_keyword method then Some Keyword
    else (if same_text camel (codes "Self") then Some SelfType
    else (if is_base_method method then Some FixedMethod
    else (if is_format method then Some FormatName
    else (if is_imm method then Some ImmMethod
    else None))))

-- ---- its outputs and its documentation, which stand in comments

unfoldable pub output_refused : List TypeVarContent → Place → ℕ × Operand → List RefusedName
output_refused vars place at =
    refused place (Output at.0) (comment_why at.1.name) ++ refused place (OutputDoc at.0) (doc_why (doc_of vars at.1))

unfoldable pub outputs_refused : List TypeVarContent → Place → List Operand → List RefusedName
outputs_refused vars place outputs = flat_map (output_refused vars place) (enumerate_from 0 outputs)

-- ---- its control

-- the name is that of the list of values, which hides the argument before it is passed on, or that of an input
unfoldable pub hidden_why : InstructionFormat → (List ℕ → Bool) → List ℕ → Option Why
hidden_why f known name =
    if f.has_value_list && is_named (codes "vlist") name then Some ListLocal
    else (if meets known name then Some OfInput
    else None)

-- The variable is the first argument. The methods that take an immediate have no argument for it to pass on, whatever its name is.
unfoldable pub control_why : BuiltInstruction → InstructionFormat → (List ℕ → Bool) → List ℕ → Option Why
control_why c f known name =
    if c.marks.inst_builder_imm_method then Some ImmControl
    else or_why (word_why name) (hidden_why f known name)

-- where the control is an argument
abbrev pub control_refused : List TypeVarContent → BuiltInstruction → InstructionFormat → Place → (List ℕ → Bool) → Option ℕ
    → List RefusedName
control_refused vars c f place known None = []
control_refused vars c f place known (Some tv) =
    refused place Control (control_why c f known (variable_name vars tv)) ++ refused place ControlDoc (doc_why (doc_at (slice_get vars tv)))

-- ---- all of an instruction

-- what is refused after its own name, if it is of this format
unfoldable pub operands_refused : List TypeVarContent → BuiltInstruction → InstructionFormat → Place → List RefusedName
operands_refused vars c f place =
    inputs_refused vars c f place c.operands_in
    ++ (outputs_refused vars place c.operands_out
    ++ (refused place Doc (doc_why c.doc)
    ++ control_refused vars c f place (is_form (flat_map names_of_input c.operands_in)) (asked_control c.polymorphic_info)))

abbrev pub with_format : List TypeVarContent → BuiltInstruction → Place → Option InstructionFormat → List RefusedName
with_format vars c place None = []
with_format vars c place (Some f) = operands_refused vars c f place

-- the instruction at this place, from 0; instructions are numbered from 1
unfoldable pub instruction_refused : (List ℕ → Bool) → (List ℕ → Bool) → List TypeVarContent → List InstructionFormat
    → ℕ × BuiltInstruction → List RefusedName
instruction_refused is_format is_imm vars formats at =
    refused (Instruction (at.0 + 1)) Name (own_name_why is_format is_imm at.1.camel_name (method_name at.1))
    ++ with_format vars at.1 (Instruction (at.0 + 1)) (slice_get formats at.1.format)

unfoldable pub instructions_refused : BuiltDeclarations → List RefusedName
instructions_refused b =
    flat_map (instruction_refused (is_among (format_names b.declared.set.formats b.formats)) (is_among (imm_methods b.instructions))
    b.declared.set.vars b.declared.set.formats) (enumerate_from 0 b.instructions)
