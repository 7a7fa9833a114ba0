-- The inputs of an instruction, as arguments of the method that builds it.
--     input_why c f known o      why an input can't have its name
--     inputs_refused vars c f place inputs      the inputs that can't
use Rattle.std.specs.Prelude.{ℕ, Bool, false, ◌||◌, ◌&&◌, not, List, [], ◌∷◌, ◌++◌, take, Option, None, Some, if◌then◌else◌, codes}
use Rattle.std.specs.List.{flat_map, enumerate_from}
use Rattle.meta_types.specs.declared.fault.Place.{Place}
use Rattle.meta_typevar.specs.declared.content.TypeVarContent.{TypeVarContent}
use Rattle.meta_operands.specs.Operand.{is_varargs_operand, doc_of}
use Rattle.meta_operands.specs.declared.operand.Operand.{Operand}
use Rattle.meta_operands.specs.declared.format.InstructionFormat.{InstructionFormat}
use Rattle.meta_inst.specs.Built.{BuiltInstruction}
use Rattle.meta_inst.specs.FormatMatch.{is_value_operand, is_block_operand, is_raw_block_operand}
use Rattle.meta_inst.specs.declared.polymorphic.PolymorphicInfo.{PolymorphicInfo}
use Rattle.meta_rust_names.specs.declared.refused.Why.{Why}
use Rattle.meta_rust_names.specs.declared.refused.Why.TheVariants.{NotBlock, ImmBlock, ControlLocal, ListLocal, ImmLocal, EarlierInput}
use Rattle.meta_rust_names.specs.declared.refused.Part.TheVariants.{Input, InputType, InputDoc}
use Rattle.meta_rust_names.specs.declared.refused.RefusedName.{RefusedName}
use Rattle.meta_rust_names.specs.Refused.{or_why, refused}
use Rattle.meta_rust_names.specs.Words.{word_why}
use Rattle.meta_rust_names.specs.Comments.{doc_why, type_why}
use Rattle.meta_rust_names.specs.Forms.{is_named}
use Rattle.meta_rust_names.specs.Methods.{is_form, meets_some}
use Rattle.meta_rust_names.specs.Variants.{variant_why}

-- ---- the names that an input takes

-- those of a block: it, and the two arguments for it
abbrev pub block_names : List ℕ → List (List ℕ)
block_names name = name ∷ (name ++ codes "_label") ∷ (name ++ codes "_args") ∷ []

-- A block has three names, and one without arguments is always the argument `block`. Two inputs with a name in common are refused,
-- also two blocks of which the later is named as an argument for the earlier one.
abbrev pub names_of_input : Operand → List (List ℕ)
names_of_input o =
    if is_block_operand o then block_names o.name
    else (if is_raw_block_operand o then codes "block" ∷ [] else o.name ∷ [])

-- those of the inputs before place k
abbrev pub earlier_inputs : List Operand → ℕ → List (List ℕ)
earlier_inputs inputs k = flat_map names_of_input (take k inputs)

-- ---- why an input can't have its name

-- A block without arguments is passed by its name, and the argument for it is `block`. A method that takes an immediate passes one with
-- arguments by its name too, where there are two arguments for it.
unfoldable pub block_why : BuiltInstruction → Operand → Option Why
block_why c o =
    if is_raw_block_operand o && not (is_named (codes "block") o.name) then Some NotBlock
    else (if is_block_operand o && c.marks.inst_builder_imm_method then Some ImmBlock
    else None)

-- whether an operand tells the type that controls, which the method keeps in `ctrl_typevar`
abbrev pub operand_controls : Option PolymorphicInfo → Bool
operand_controls None = false
operand_controls (Some info) = info.use_typevar_operand

-- whether the input is put into the list of values, where there is one
abbrev pub is_listed : Operand → Bool
is_listed o = is_value_operand o || is_varargs_operand o

-- the name is that of the variable which keeps the type that controls, where an operand tells it
unfoldable pub is_control_local : BuiltInstruction → List ℕ → Bool
is_control_local c name = operand_controls c.polymorphic_info && is_named (codes "ctrl_typevar") name

-- it is that of the list of values, where there is one, or that of the pool beside it, where the input is put into the list
unfoldable pub is_list_local : InstructionFormat → Operand → Bool
is_list_local f o = f.has_value_list && (is_named (codes "vlist") o.name || (is_listed o && is_named (codes "pool") o.name))

-- it is that of the immediate's type, where there are methods that take an immediate
unfoldable pub is_imm_local : BuiltInstruction → List ℕ → Bool
is_imm_local c name = c.marks.inst_builder_imm_method && is_named (codes "imm_ty") name

-- the name is that of a variable of the method, by which that of the argument is hidden before the argument is passed on
unfoldable pub local_why : BuiltInstruction → InstructionFormat → Operand → Option Why
local_why c f o =
    if is_control_local c o.name then Some ControlLocal
    else (if is_list_local f o then Some ListLocal
    else (if is_imm_local c o.name then Some ImmLocal
    else None))

-- an earlier input has a name of it
unfoldable pub earlier_why : (List ℕ → Bool) → Operand → Option Why
earlier_why known o = if meets_some known (names_of_input o) then Some EarlierInput else None

-- why it can't have its name, where these names are known of earlier inputs
unfoldable pub input_why : BuiltInstruction → InstructionFormat → (List ℕ → Bool) → Operand → Option Why
input_why c f known o =
    or_why (block_why c o) (
    or_why (word_why o.name) (or_why (variant_why o.kind o.name) (or_why (local_why c f o) (earlier_why known o))))

-- whether its documentation stands in a comment: that of a block does only with the methods that take an immediate
abbrev pub is_documented : BuiltInstruction → Operand → Bool
is_documented c o = c.marks.inst_builder_imm_method || not (is_block_operand o || is_raw_block_operand o)

-- why it can't stand there
unfoldable pub input_doc_why : List TypeVarContent → BuiltInstruction → Operand → Option Why
input_doc_why vars c o = if is_documented c o then doc_why (doc_of vars o) else None

-- ---- the inputs

-- The input at the place: its name, which can't be it for this reason, its type and its documentation. The type is that of its own kind,
-- which need not be that of the field: a format asks only for the field's name.
unfoldable pub input_refused : List TypeVarContent → BuiltInstruction → Place → Option Why → ℕ × Operand → List RefusedName
input_refused vars c place why at =
    refused place (Input at.0) why
    ++ (refused place (InputType at.0) (type_why at.1.kind.rust_type)
    ++ refused place (InputDoc at.0) (input_doc_why vars c at.1))

-- the same, after the inputs before it
abbrev pub input_at : List TypeVarContent → BuiltInstruction → InstructionFormat → Place → List Operand → ℕ × Operand → List RefusedName
input_at vars c f place inputs at = input_refused vars c place (input_why c f (is_form (earlier_inputs inputs at.0)) at.1) at

unfoldable pub inputs_refused : List TypeVarContent → BuiltInstruction → InstructionFormat → Place → List Operand → List RefusedName
inputs_refused vars c f place inputs = flat_map (input_at vars c f place inputs) (enumerate_from 0 inputs)
