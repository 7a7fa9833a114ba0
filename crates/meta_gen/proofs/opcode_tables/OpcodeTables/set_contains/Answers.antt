use Rattle.std.proofs.Common.{List, slice_get, ap, ◌∙◌, sym, refl}
use Rattle.std.proofs.lemmas.Option.{slice_get_read}
use Rattle.meta_typevar.specs.declared.masks.Masks.{Masks}
use Rattle.meta_inst.specs.Tables.{TableContents}
use Rattle.meta_gen.proofs.Reading.{contains_read, contains_none}
use Rattle.meta_gen.proofs.opcode_tables.OpcodeTables.set_contains.Goals as goal

pub returns-in-Some : goal.returns-in-Some
returns-in-Some c =
    let own = c.deref.ensures.value ∙ ap (λ (t : TableContents). t.type_sets) c.self.view_is in
    let l = c.in-Some.ensures.lookup.3 in
    contains_read c.args.self.now c.args.set c.args.number c.in-Some.masks.now c.contains.result
    (ap (λ (xs : List Masks). slice_get xs c.args.set) (sym own)
    ∙ slice_get_read c.deref.result.now _ c.args.set c.in-Some.masks.now refl l.0 (l.1 _)) c.contains.ensures

pub returns-in-None : goal.returns-in-None
returns-in-None c =
    let own = c.deref.ensures.value ∙ ap (λ (t : TableContents). t.type_sets) c.self.view_is in
    contains_none c.args.self.now c.args.set c.args.number c.deref.result.now own c.in-None.ensures.lookup.3
