use Rattle.std.proofs.Common.{List, Some, slice_get, ap, ◌∙◌, sym, refl}
use Rattle.std.proofs.lemmas.Option.{slice_get_read}
use Rattle.meta_lists.proofs.Mapped.{get_map}
use Rattle.meta_inst.specs.Tables.{NumberConstraint}
use Rattle.meta_gen.specs.Constraint.{number_constraint_of}
use Rattle.meta_explain.proofs.searching.is_control_at.Goals as goal

pub returns-in-Some : goal.returns-in-Some
returns-in-Some c = λ t.
    let l = c.in-Some.ensures.lookup.3 in
    let read = slice_get_read c.operand_constraints.result.now _ c.args.place c.in-Some.constraint.now refl l.0 (l.1 _) in
    ap (λ (xs : List NumberConstraint). slice_get xs c.args.place) (sym c.operand_constraints.ensures)
    ∙ get_map number_constraint_of c.operand_constraints.result.now c.args.place _ read ∙ ap Some (c.asks_for.ensures t)
