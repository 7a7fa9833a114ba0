use Rattle.std.proofs.Common.{List, slice_get, map, ap, ◌∙◌, sym, refl}
use Rattle.std.proofs.lemmas.Option.{slice_get_read}
use Rattle.meta_lists.proofs.Mapped.{get_map}
use Rattle.meta_inst.specs.Tables.{TableContents, NumberConstraint}
use Rattle.meta_gen.specs.Constraint.{number_constraint_of}
use Rattle.meta_gen.proofs.Reading.{passes_read, nothing_passes, refused, none_mapped}
use Rattle.meta_gen.proofs.opcode_tables.OpcodeTables.passes_at.Goals as goal

pub returns-in-Some : goal.returns-in-Some
returns-in-Some c =
    let own = ap (map number_constraint_of) c.deref.ensures.value ∙ ap (λ (t : TableContents). t.operand_constraints) c.self.view_is in
    let l = c.in-Some.ensures.lookup.3 in
    let read = slice_get_read c.deref.result.now _ c.args.place c.in-Some.constraint.now refl l.0 (l.1 _) in
    passes_read _ _ _ _ _ _ (ap (λ (xs : List NumberConstraint). slice_get xs c.args.place) (sym own)
    ∙ get_map number_constraint_of c.deref.result.now c.args.place _ read) c.passes.ensures

pub returns-in-None : goal.returns-in-None
returns-in-None c =
    let own = ap (map number_constraint_of) c.deref.ensures.value ∙ ap (λ (t : TableContents). t.operand_constraints) c.self.view_is in
    refused (nothing_passes _ _ _ _ (ap (λ (xs : List NumberConstraint). slice_get xs c.args.place) (sym own)
    ∙ none_mapped c.deref.result.now c.args.place c.in-None.ensures.lookup.3))
