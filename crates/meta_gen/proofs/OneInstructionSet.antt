-- Declarations have one value of tables.
use Rattle.std.proofs.Common.{◌≡◌, ℕ, List, map, take, slice_get, Option, Some, refl, sym, ap, ◌∙◌, subst, arith}
use Rattle.std.proofs.lemmas.Option.{same_Some}
use Rattle.meta_lists.proofs.Places.{get_there, get_beside, same_places}
use Rattle.meta_typevar.specs.Registry.{HoldTypeSets}
use Rattle.meta_typevar.specs.Variable.{Variable}
use Rattle.meta_operands.specs.declared.format.InstructionFormat.{InstructionFormat}
use Rattle.meta_inst.specs.Builder.{Builder}
use Rattle.meta_inst.specs.InstructionSet.{InstructionSet, root_sets, instruction_in_set}
use Rattle.meta_inst.proofs.OneControl.{same_control}
use Rattle.meta_inst.specs.Tables.{TableContents, OpcodeNumbers, AreOpcodeNumbersOf}
use Rattle.meta_unique.specs.NameSlots.{AreNameSlots}
use Rattle.meta_unique.specs.Overlap.{added_at}
use Rattle.meta_gen.specs.Constraint.{number_constraint_of}
use Rattle.meta_gen.specs.ConstraintLists.{same_constraint, overlapped, IsConstraintList}
use Rattle.meta_gen.specs.TablesOf.{AreFormatNames, AreTablesOf}
use Rattle.meta_gen.specs.declared.constraint.Constraint.{Constraint}
use Rattle.meta_unique.proofs.OneFilling.{one_filling}
use Rattle.meta_gen.proofs.OneTable.{same_tables}
use Rattle.meta_gen.proofs.OneNeed.{one_needed}
use Rattle.meta_gen.proofs.OneEntry.{one_flags, one_offset, one_list}

-- the formats of instructions have one list of names
one_format_names : (formats : List InstructionFormat) (instructions : List Builder) (xs ys : List (List ℕ))
    → AreFormatNames formats instructions xs → AreFormatNames formats instructions ys → xs ≡ ys
one_format_names formats instructions xs ys a b =
    let count = a.count in
    same_places xs ys (a.count ∙ sym b.count) (λ k l.
    let (x, at) = get_there instructions k (omega (arith, l)) in
    let p = a.each k x at in
    let q = b.each k x at in
    p.named ∙ ap (λ (f : InstructionFormat). Some f.name) (same_Some p.format q.format (sym p.is_format ∙ q.is_format)) ∙ sym q.named)

-- entries with the same four numbers are the same
same_entry : (e f : OpcodeNumbers) → e.flags ≡ f.flags → e.typeset_offset ≡ f.typeset_offset
    → e.second_offset ≡ f.second_offset → e.constraint_offset ≡ f.constraint_offset → e ≡ f
same_entry e f flags typeset_offset second_offset constraint_offset =
    λ i. record {
      flags = flags i;
      typeset_offset = typeset_offset i;
      second_offset = second_offset i;
      constraint_offset = constraint_offset i;
    }

module _ (d : InstructionSet) (s t : TableContents) (typed : HoldTypeSets d.vars) (a : AreTablesOf d s) (b : AreTablesOf d t) where
  sets_same : s.type_sets ≡ t.type_sets
  sets_same = one_needed d s.type_sets t.type_sets a.type_sets b.type_sets

  -- the instructions have one list of lists
  lists_same : a.operand_constraints.lists ≡ b.operand_constraints.lists
  lists_same =
      same_places a.operand_constraints.lists b.operand_constraints.lists (a.operand_constraints.count
      ∙ sym b.operand_constraints.count) (λ k l.
      let count = a.operand_constraints.count in
      let (x, at) = get_there d.instructions k (omega (arith, l)) in
      let p = a.operand_constraints.are k x at in
      let q = b.operand_constraints.are k x at in
      let one : q.control ≡ p.control = same_control (root_sets d) (instruction_in_set d x) q.control p.control q.is_control p.is_control in
      let is_q : IsConstraintList (root_sets d) p.control t (instruction_in_set d x) q.list =
      subst (λ (c : Option Variable). IsConstraintList (root_sets d) c t (instruction_in_set d x) q.list) one q.is_list in
      p.at ∙ ap Some (one_list d s t typed b.type_sets sets_same (instruction_in_set d x) p.control p.is_control
      (a.holds k x at).good p.list q.list p.is_list is_q) ∙ sym q.at)

  -- the list of an entry began at one place
  one_start : (k : ℕ) (e f : OpcodeNumbers) → slice_get s.entries k ≡ Some e → slice_get t.entries k ≡ Some f
      → e.constraint_offset ≡ f.constraint_offset
  one_start k e f at_e at_f =
      let (list, list_at) = get_beside s.entries a.operand_constraints.lists k e (a.count ∙ sym a.operand_constraints.count) at_e in
      a.operand_constraints.offsets k list e list_at at_e
      ∙ ap (λ (ls : List (List Constraint)). added_at same_constraint (overlapped (take k ls)) list) lists_same
      ∙ sym (b.operand_constraints.offsets k list f (ap (λ (ls : List (List Constraint)). slice_get ls k) (sym lists_same) ∙ list_at) at_f)

  entries_same : s.entries ≡ t.entries
  entries_same =
      same_places s.entries t.entries (a.count ∙ sym b.count) (λ k l.
      let count = a.count in
      let (x, at) = get_there d.instructions k (omega (arith, l)) in
      let p = a.holds k x at in
      let q = b.holds k x at in
      let i = instruction_in_set d x in
      let one : q.control ≡ p.control = same_control (root_sets d) i q.control p.control q.is_control p.is_control in
      let is_q : AreOpcodeNumbersOf (root_sets d) i p.control t q.entry =
      subst (λ (c : Option Variable). AreOpcodeNumbersOf (root_sets d) i c t q.entry) one q.is_entry in
      p.at ∙ ap Some (same_entry p.entry q.entry
      (one_flags i p.control p.entry.flags q.entry.flags p.is_entry.flags is_q.flags)
      (one_offset d s t typed b.type_sets sets_same p.control p.entry.typeset_offset q.entry.typeset_offset
      p.is_entry.type_set is_q.type_set)
      (one_offset d s t typed b.type_sets sets_same i.second p.entry.second_offset q.entry.second_offset
      p.is_entry.second_set is_q.second_set)
      (one_start k p.entry q.entry p.at q.at)) ∙ sym q.at)

  pub tables_same : s ≡ t
  tables_same =
      let named : s.names ≡ t.names = a.names ∙ sym b.names in
      same_tables s t named (one_format_names d.formats d.instructions s.formats t.formats a.formats b.formats)
      (one_filling 1 t.names s.opcode_slots t.opcode_slots
      (subst (λ (n : List (List ℕ)). AreNameSlots 1 n s.opcode_slots) named a.opcode_slots) b.opcode_slots)
      sets_same
      (a.operand_constraints.whole
      ∙ ap (λ (ls : List (List Constraint)). map number_constraint_of (overlapped ls)) lists_same ∙ sym b.operand_constraints.whole)
      entries_same
