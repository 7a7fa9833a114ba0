-- The body of the method that builds an instruction.
--     body_text vars c format     its lines
use Rattle.std.specs.Prelude.{ℕ, zero, suc, ◌-◌, ◌==◌, ◌&&◌, Bool, List, [], ◌∷◌, ◌++◌, length, slice_get}
use Rattle.std.specs.Prelude.{Option, None, Some, option_and_then, if◌then◌else◌, codes}
use Rattle.std.specs.List.{flat_map}
use Rattle.std.specs.Fmt.{decimal}
use Rattle.meta_text.specs.Lines.{at, lines_onto, text_of}
use Rattle.meta_typevar.specs.declared.content.TypeVarContent.{TypeVarContent}
use Rattle.meta_operands.specs.Operand.{is_varargs_operand, is_immediate_operand}
use Rattle.meta_operands.specs.declared.operand.Operand.{Operand}
use Rattle.meta_operands.specs.declared.format.InstructionFormat.{InstructionFormat}
use Rattle.meta_inst.specs.Built.{BuiltInstruction}
use Rattle.meta_inst.specs.FormatMatch.{is_value_operand, is_block_operand}
use Rattle.meta_inst.specs.declared.polymorphic.PolymorphicInfo.{PolymorphicInfo}
use Rattle.meta_rust_text.specs.Names.{operand_name}
use Rattle.meta_rust_text.specs.Operands.{is_converted, is_mem_flags, variable_name}

-- ---- what is made of the arguments

-- the line that converts the argument, if it is converted
unfoldable pub conversion_of : Operand → List ℕ
conversion_of o = if is_converted o then text_of (at 2 (codes "let " ∷ o.name ∷ codes " = " ∷ o.name ∷ codes ".into();" ∷ []) ∷ []) else []

-- the line that stores flags of a memory access
unfoldable pub mem_flags_text : List ℕ → List ℕ
mem_flags_text name =
    text_of (at 2 (codes "let " ∷ name ∷ codes " = self.data_flow_graph_mut().mem_flags.insert(" ∷ name ∷ codes ").unwrap();" ∷ []) ∷ [])

-- the same, if the operand is such flags
unfoldable pub mem_flags_of : Operand → List ℕ
mem_flags_of o = if is_mem_flags o && is_immediate_operand o then mem_flags_text o.name else []

-- the line that makes one value of a block and of what is passed to it
unfoldable pub block_call_text : List ℕ → List ℕ
block_call_text name = text_of (
    at 2 (
    codes "let " ∷ name ∷ codes " = self.data_flow_graph_mut().block_call(" ∷ name ∷ codes "_label, " ∷ name ∷ codes "_args);" ∷ []
    )
    ∷ []
    )

-- the same, if the operand is a block
unfoldable pub block_call_of : Operand → List ℕ
block_call_of o = if is_block_operand o then block_call_text o.name else []

-- all of them, those that convert first
unfoldable pub prepared_text : List Operand → List ℕ
prepared_text inputs = flat_map conversion_of inputs ++ (flat_map mem_flags_of inputs ++ flat_map block_call_of inputs)

-- ---- the control

-- the name of the operand that the format designates, and no text if it designates none
abbrev pub designated_name : BuiltInstruction → Option ℕ → List ℕ
designated_name c None = []
designated_name c (Some place) = operand_name c.operands_in place

-- the place among the inputs of the value that the format designates
abbrev pub designated_place : BuiltInstruction → InstructionFormat → Option ℕ
designated_place c format = option_and_then (slice_get c.value_opnums) format.typevar_operand

-- the line that takes the control from the operand of this name, if the control is the type of the designated operand
unfoldable pub control_text : Option PolymorphicInfo → List ℕ → List ℕ
control_text None name = []
control_text (Some info) name =
    if info.use_typevar_operand
    then text_of (at 2 (codes "let ctrl_typevar = self.data_flow_graph().value_type(" ∷ name ∷ codes ");" ∷ []) ∷ [])
    else []

-- what stands for the control in the call of the format's constructor
abbrev pub passed_control : List TypeVarContent → Option PolymorphicInfo → List ℕ
passed_control vars None = codes "types::INVALID"
passed_control vars (Some info) = if info.use_typevar_operand then codes "ctrl_typevar" else variable_name vars info.ctrl_typevar

-- ---- the list of values

-- the line that adds a value
unfoldable pub one_value_line : List ℕ → List ℕ
one_value_line name = text_of (at 3 (codes "vlist.push(" ∷ name ∷ codes ", pool);" ∷ []) ∷ [])

-- the line that adds a variable number of values
unfoldable pub more_values_line : List ℕ → List ℕ
more_values_line name = text_of (at 3 (codes "vlist.extend(" ∷ name ∷ codes ".iter().cloned(), pool);" ∷ []) ∷ [])

-- the line that adds the operand, if it is one value or a variable number of them
unfoldable pub added_text : Operand → List ℕ
added_text o = if is_value_operand o then one_value_line o.name else (if is_varargs_operand o then more_values_line o.name else [])

-- the list of the values
unfoldable pub value_list_text : List Operand → List ℕ
value_list_text inputs =
    lines_onto (
    at 2 (codes "let mut vlist = ir::ValueList::default();" ∷ [])
    ∷ at 2 (codes "{" ∷ [])
    ∷ at 3 (codes "let pool = &mut self.data_flow_graph_mut().value_lists;" ∷ []) ∷ [])
    (flat_map added_text inputs ++ text_of (at 2 (codes "}" ∷ []) ∷ []))

-- the same, if the format has one
abbrev pub value_list_of : Bool → List Operand → List ℕ
value_list_of has_value_list inputs = if has_value_list then value_list_text inputs else []

-- ---- the call of the format's constructor

-- the operands at these places as arguments, after others
abbrev pub passed_at : List Operand → List ℕ → List ℕ
passed_at inputs places = flat_map (λ place. codes ", " ++ operand_name inputs place) places

-- what comes after the control: the immediates and entities, and then the list of the values if the format has one, and else each value
unfoldable pub passed_operands : BuiltInstruction → InstructionFormat → List ℕ
passed_operands c format =
    passed_at c.operands_in c.imm_opnums
    ++ (if format.has_value_list then codes ", vlist" else passed_at c.operands_in c.value_opnums)

-- the call of the constructor of this name, for the opcode of this name, and the line that traces it
unfoldable pub call_text : List ℕ → List ℕ → List ℕ → List ℕ → List ℕ
call_text constructor opcode control operands = text_of (
    at 2 (codes "let (inst, dfg) = self." ∷ constructor ∷ codes "(Opcode::" ∷ opcode ∷ codes ", " ∷ control ∷ operands ∷ codes ");" ∷ [])
    ∷ at 2 (codes "crate::trace!(\"inserted {inst:?}: {}\", dfg.display_inst(inst));" ∷ []) ∷ [])

-- that for the instruction
abbrev pub call_of : List TypeVarContent → BuiltInstruction → InstructionFormat → List ℕ
call_of vars c format = call_text format.name c.camel_name (passed_control vars c.polymorphic_info) (passed_operands c format)

-- ---- the results

-- what f gives for the numbers from 0 to the last, separated by a comma and a space
abbrev pub parted_to : (ℕ → List ℕ) → ℕ → List ℕ
parted_to f zero = f 0
parted_to f (suc last) = parted_to f last ++ (codes ", " ++ f (suc last))

-- the result with this number
unfoldable pub numbered_result : ℕ → List ℕ
numbered_result number = codes "results[" ++ (decimal number ++ codes "]")

-- the lines that give this count of results, which have this text
unfoldable pub several_text : ℕ → List ℕ → List ℕ
several_text count results = text_of (
    at 2 (codes "let results = &dfg.inst_results(inst)[0.." ∷ decimal count ∷ codes "];" ∷ [])
    ∷ at 2 (codes "(" ∷ results ∷ codes ")" ∷ []) ∷ [])

-- the lines that give this count of results, or the instruction itself if there is no result
unfoldable pub results_lines : ℕ → List ℕ
results_lines count =
    if count == 0 then text_of (at 2 (codes "inst" ∷ []) ∷ [])
    else (if count == 1 then text_of (at 2 (codes "dfg.first_result(inst)" ∷ []) ∷ [])
    else several_text count (parted_to numbered_result (count - 1)))

-- the type for this count of results
unfoldable pub result_type : ℕ → List ℕ
result_type count =
    if count == 0 then codes "Inst"
    else (if count == 1 then codes "Value"
    else codes "(" ++ (parted_to (λ number. codes "Value") (count - 1) ++ codes ")"))

-- ---- the whole body

-- what is made of the arguments, the control, the list of values, the call, and the results
unfoldable pub body_text : List TypeVarContent → BuiltInstruction → InstructionFormat → List ℕ
body_text vars c format =
    prepared_text c.operands_in
    ++ (control_text c.polymorphic_info (designated_name c (designated_place c format))
    ++ (value_list_of format.has_value_list c.operands_in
    ++ (call_of vars c format ++ results_lines (length c.value_results))))
