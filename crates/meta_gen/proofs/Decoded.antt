-- What tables of declarations allow is what the declarations accept.
use Rattle.std.proofs.Common.{◌≡◌, ◌↔◌, ℕ, suc, List, Option, Some, sym, ◌∙◌, subst, add-one}
use Rattle.meta_typevar.specs.Registry.{HoldTypeSets}
use Rattle.meta_inst.specs.InstructionSet.{InstructionSet, root_sets, instruction_in_set}
use Rattle.meta_inst.specs.Acceptance.{AcceptsNumbers}
use Rattle.meta_inst.specs.Tables.{TableContents, Allows, at_opcode}
use Rattle.meta_inst.proofs.Decoding.{tables_mean}
use Rattle.meta_inst.proofs.OneControl.{same_control}
use Rattle.meta_gen.specs.TablesOf.{AreTablesOf, HoldsInstruction, AcceptsOpcode}
use Rattle.meta_gen.proofs.Declared.{declared_as}

-- The tables mean the declarations.
pub tables_of_mean : (d : InstructionSet) (tables : TableContents) (op : ℕ) (c e : Option ℕ) (rs vs : List ℕ) → HoldTypeSets d.vars
    → AreTablesOf d tables → (Allows tables op c e rs vs ↔ AcceptsOpcode d op c e rs vs)
tables_of_mean d tables op c e rs vs typed h = (to, from)
  where
    -- what is allowed is accepted
    to : Allows tables op c e rs vs → AcceptsOpcode d op c e rs vs
    to a =
        let x = declared_as d tables op a.entry h a.is_opcode in
        record {
          place = x.place;
          builder = x.builder;
          at = x.at;
          number = x.number;
          control = x.control;
          is_control = x.is_control;
          accepts = (tables_mean (root_sets d) (instruction_in_set d x.builder) x.control tables op a.entry c e rs vs
              (λ k w _. typed w.root) x.is_control (h.holds x.place x.builder x.at).good x.is_entry a.is_opcode).0 a;
        }

    -- what is accepted is allowed
    from : AcceptsOpcode d op c e rs vs → Allows tables op c e rs vs
    from a =
        let held : HoldsInstruction d tables a.place a.builder = h.holds a.place a.builder a.at in
        let same : a.control ≡ held.control =
        same_control (root_sets d) (instruction_in_set d a.builder) a.control held.control a.is_control held.is_control in
        let accepted : AcceptsNumbers (root_sets d) (instruction_in_set d a.builder) held.control c e rs vs =
        subst (λ x. AcceptsNumbers (root_sets d) (instruction_in_set d a.builder) x c e rs vs) same a.accepts in
        let numbered : suc a.place ≡ op = sym (a.number ∙ add-one a.place) in
        let at : at_opcode tables.entries op ≡ Some held.entry = subst (λ n. at_opcode tables.entries n ≡ Some held.entry) numbered held.at
        in
        (tables_mean (root_sets d) (instruction_in_set d a.builder) held.control tables op held.entry c e rs vs
        (λ k w _. typed w.root) held.is_control held.good held.is_entry at).1 accepted
