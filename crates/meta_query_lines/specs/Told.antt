-- What declarations tell of instructions beside their tables, where they are known: the names of operands, and the marks.
--     operand_name told op k     the name of an operand of an opcode
--     has_mark p marks           whether there is a mark among the marks of an instruction
use Rattle.std.specs.Prelude.{ℕ, nat_lt, ◌-◌, Bool, List, length, slice_get, Option, if◌then◌else◌}
use Rattle.std.specs.Borrow.{Bor}
use Rattle.std.specs.Option.{option_map, option_and_then}
use Rattle.meta_operands.specs.declared.operand.Operand.{Operand}
use Rattle.meta_inst.specs.Built.{BuiltInstruction}
use Rattle.meta_inst.specs.Tables.{at_opcode}
use Rattle.meta_inst.specs.declared.marks.Marks.{Marks}
use Rattle.meta_file_syntax.specs.declared.insts.Property.{Property}
use Rattle.meta_file_syntax.specs.declared.insts.Property.TheVariants as properties

-- the instructions that are given, if they are known
abbrev pub told_by : Option (Bor (List BuiltInstruction)) → Option (List BuiltInstruction)
told_by given = option_map (λ (instructions : Bor (List BuiltInstruction)). instructions.now) given

-- the instruction of an opcode, where the instructions are known
abbrev pub instruction_at : Option (List BuiltInstruction) → ℕ → Option BuiltInstruction
instruction_at told op = option_and_then (λ instructions. at_opcode instructions op) told

-- the name of the k-th of the operands at these places
abbrev pub name_at : List Operand → List ℕ → ℕ → Option (List ℕ)
name_at operands places k =
    option_and_then (λ place. option_map (λ (o : Operand). o.name) (slice_get operands place)) (slice_get places k)

-- the name of the k-th operand that is a value: of the results in order, and then of the value inputs
abbrev pub value_name : BuiltInstruction → ℕ → Option (List ℕ)
value_name b k =
    if nat_lt k (length b.value_results) then name_at b.operands_out b.value_results k
    else name_at b.operands_in b.value_opnums (k - length b.value_results)

-- the name of that operand of an opcode, where the instructions are known
abbrev pub operand_name : Option (List BuiltInstruction) → ℕ → ℕ → Option (List ℕ)
operand_name told op k = option_and_then (λ b. value_name b k) (instruction_at told op)

-- whether the mark, as a file declares it, is among these
abbrev pub has_mark : Property → Marks → Bool
has_mark properties.TerminatesBlock m = m.is_terminator
has_mark properties.Branches m = m.is_branch
has_mark properties.Call m = m.is_call
has_mark properties.Returns m = m.is_return
has_mark properties.CanLoad m = m.can_load
has_mark properties.CanStore m = m.can_store
has_mark properties.CanTrap m = m.can_trap
has_mark properties.OtherSideEffects m = m.other_side_effects
has_mark properties.SideEffectsIdempotent m = m.side_effects_idempotent
has_mark properties.ImmMethod m = m.inst_builder_imm_method
