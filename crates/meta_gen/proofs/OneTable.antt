-- Parts have at most one well-formed table.
use Rattle.std.proofs.Common.{◌≡◌, ℕ, List, sym, ◌∙◌, subst}
use Rattle.meta_typevar.specs.declared.masks.Masks.{Masks}
use Rattle.meta_inst.specs.Tables.{TableContents}
use Rattle.meta_unique.specs.NameSlots.{AreNameSlots}
use Rattle.meta_gen.specs.WellFormedOpcodes.{IsWellFormedOpcodes, HaveParts}
use Rattle.meta_gen.specs.declared.constraint.Constraint.{Constraint}
use Rattle.meta_gen.specs.declared.constraint.OpcodeConstraints.{OpcodeConstraints}
use Rattle.meta_unique.proofs.OneFilling.{one_filling}

-- tables with the same parts and slots are the same
pub same_tables : (s t : TableContents) → s.names ≡ t.names → s.formats ≡ t.formats → s.opcode_slots ≡ t.opcode_slots
    → s.type_sets ≡ t.type_sets → s.operand_constraints ≡ t.operand_constraints → s.entries ≡ t.entries → s ≡ t
same_tables s t names formats slots type_sets operand_constraints entries =
    λ i. record {
      names = names i;
      formats = formats i;
      opcode_slots = slots i;
      type_sets = type_sets i;
      operand_constraints = operand_constraints i;
      entries = entries i;
    }

pub one_table : (names formats : List (List ℕ)) (type_sets : List Masks) (operand_constraints : List Constraint)
    (constraints : List OpcodeConstraints) (s t : TableContents) → IsWellFormedOpcodes s → IsWellFormedOpcodes t
    → HaveParts s names formats type_sets operand_constraints constraints
    → HaveParts t names formats type_sets operand_constraints constraints → s ≡ t
one_table names formats type_sets operand_constraints constraints s t a b p q =
    let named : s.names ≡ t.names = p.names ∙ sym q.names in
    same_tables s t named (p.formats ∙ sym q.formats)
    (one_filling 1 t.names s.opcode_slots t.opcode_slots (subst (λ (n : List (List ℕ)). AreNameSlots 1 n s.opcode_slots) named a.slots)
    b.slots)
    (p.type_sets ∙ sym q.type_sets) (p.operand_constraints ∙ sym q.operand_constraints) (p.entries ∙ sym q.entries)
