-- Tables of declarations hold each declared instruction, and no other.
use Rattle.std.proofs.Common.{◌≡◌, ℕ, zero, suc, Option, None, Some, IfSome, sym, ◌∙◌, subst, add-one}
use Rattle.std.proofs.lemmas.Option.{same_Some}
use Rattle.meta_lists.proofs.Places.{get_beside}
use Rattle.meta_inst.specs.InstructionSet.{InstructionSet, root_sets, instruction_in_set}
use Rattle.meta_inst.specs.Tables.{TableContents, OpcodeNumbers, AreOpcodeNumbersOf, at_opcode}
use Rattle.meta_gen.specs.TablesOf.{AreTablesOf, HoldsInstruction}
use Rattle.meta_gen.specs.Found.{IsDeclaredAs}
use Rattle.meta_gen.specs.Constraint.{entry_of}
use Rattle.meta_gen.specs.declared.constraint.OpcodeConstraints.{OpcodeConstraints}

-- what stands at an opcode of the tables is the entry of the instruction with this number
pub declared_as : (d : InstructionSet) (tables : TableContents) (op : ℕ) (entry : OpcodeNumbers) → AreTablesOf d tables
    → at_opcode tables.entries op ≡ Some entry → IsDeclaredAs d tables op entry
declared_as d tables zero entry h at = absurd (cc)
declared_as d tables (suc k) entry h at =
    let (b, b_at) = get_beside tables.entries d.instructions k entry h.count at in
    let held : HoldsInstruction d tables k b = h.holds k b b_at in
    record {
      place = k;
      builder = b;
      at = b_at;
      number = sym (add-one k);
      control = held.control;
      is_control = held.is_control;
      is_entry = subst (λ x. AreOpcodeNumbersOf (root_sets d) (instruction_in_set d b) held.control tables x)
          (same_Some held.entry entry (sym held.at ∙ at)) held.is_entry;
    }

-- a look-up that answers the entry of an opcode answers that of the instruction with this number
pub declared_if_some : (d : InstructionSet) (tables : TableContents) (op : ℕ) (o : Option OpcodeConstraints) → AreTablesOf d tables
    → IfSome o (λ e. at_opcode tables.entries op ≡ Some (entry_of e)) → IfSome o (λ e. IsDeclaredAs d tables op (entry_of e))
declared_if_some d tables op None h found = found
declared_if_some d tables op (Some e) h found = declared_as d tables op (entry_of e) h found
