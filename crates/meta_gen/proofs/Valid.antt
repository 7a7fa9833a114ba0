-- Tables of valid declarations are well-formed.
use Rattle.std.proofs.Common.{ℕ, List, All, length, sym, ap, ◌∙◌, subst, arith}
use Rattle.std.proofs.lemmas.List.{length-map}
use Rattle.meta_types.specs.Name.{IsName}
use Rattle.meta_types.specs.SharedNames.{AreDistinct}
use Rattle.meta_typevar.specs.Registry.{HoldTypeSets}
use Rattle.meta_inst.specs.Builder.{Builder}
use Rattle.meta_inst.specs.InstructionSet.{InstructionSet}
use Rattle.meta_inst.specs.Faults.{IsValid}
use Rattle.meta_inst.specs.Tables.{TableContents}
use Rattle.meta_build.proofs.FirstFault.{few_opcodes}
use Rattle.meta_gen.specs.TablesOf.{AreTablesOf}
use Rattle.meta_gen.specs.WellFormedOpcodes.{AreWellFormedParts, IsWellFormedOpcodes}
use Rattle.meta_gen.proofs.Made.{HoldDeclared}
use Rattle.meta_gen.proofs.ValidNames.{valid_names, valid_formats, distinct_names}
use Rattle.meta_gen.proofs.ValidSets.{needed_masks, few_masks}
use Rattle.meta_gen.proofs.ValidLists.{constraints_well, constraints_few}
use Rattle.meta_gen.proofs.ValidEntries.{entries_well}

module _ (d : InstructionSet) (tables : TableContents) (valid : IsValid d) (typed : HoldTypeSets d.vars) where
  pub valid_parts : HoldDeclared d tables
      → AreWellFormedParts tables.names tables.formats tables.type_sets tables.operand_constraints tables.entries
  valid_parts h =
      let few = few_opcodes d valid in
      let count = h.count in
      let formats = h.formats.count in
      let names = ap (length {A = List ℕ}) h.names ∙ length-map d.instructions (λ (b : Builder). b.name) in
      record {
        few_opcodes = omega arith;
        few_type_sets = few_masks d valid tables.type_sets h.type_sets;
        few_constraints = constraints_few d valid tables h.operand_constraints few;
        named = names ∙ sym count;
        formatted = formats ∙ sym count;
        names = subst (All IsName) (sym h.names) (valid_names d valid);
        formats = valid_formats d valid tables.formats h.formats;
        distinct = subst AreDistinct (sym h.names) (distinct_names d valid);
        masks = needed_masks d typed tables.type_sets h.type_sets;
        constraints = constraints_well d valid tables h.operand_constraints;
        entries = entries_well d tables h;
      }

  pub valid_tables : AreTablesOf d tables → IsWellFormedOpcodes tables
  valid_tables h = record {
    parts = valid_parts (record {
      names = h.names;
      formats = h.formats;
      type_sets = h.type_sets;
      operand_constraints = h.operand_constraints;
      count = h.count;
      holds = h.holds;
    });
    slots = h.opcode_slots;
  }
