use Rattle.std.proofs.Common.{List, slice_get, refl, sym, ap, ◌∙◌}
use Rattle.std.specs.Option.{option_map}
use Rattle.std.proofs.lemmas.Bool.{false≢true}
use Rattle.std.proofs.lemmas.Option.{slice_get_read, slice_get-map, slice_get_past}
use Rattle.meta_lists.proofs.Mapped.{get_map}
use Rattle.meta_inst.specs.Tables.{NumberConstraint}
use Rattle.meta_gen.specs.Constraint.{number_constraint_of, entry_of}
use Rattle.meta_explain.proofs.Serving.{met_here, met_there, met_nowhere}
use Rattle.meta_explain.proofs.accepted.is_met_at.Goals as goal

pub returns-in-Some : goal.returns-in-Some
returns-in-Some c =
    let own = c.operand_constraints.result.now in
    let l = c.in-Some.ensures.lookup.3 in
    let read = slice_get_read own _ c.args.place c.in-Some.constraint.now refl l.0 (l.1 _) in
    let at = get_map number_constraint_of own c.args.place _ read in
    let here = sym (ap (λ (xs : List NumberConstraint). slice_get xs c.args.place) (sym c.operand_constraints.ensures) ∙ at) in
    let t = c.args.tables.now in
    let e = entry_of c.args.entry in
    let x = number_constraint_of c.in-Some.constraint.now in (
      λ is. met_here t e c.args.place x here (c.is_met.ensures.0 is),
      λ met. c.is_met.ensures.1 (met_there t e c.args.place x here met),
    )

pub returns-in-None : goal.returns-in-None
returns-in-None c =
    let own = c.operand_constraints.result.now in
    let none = slice_get-map number_constraint_of own c.args.place
    ∙ ap (option_map number_constraint_of) (slice_get_past own c.args.place c.in-None.ensures.lookup.3) in
    let nowhere = sym (ap (λ (xs : List NumberConstraint). slice_get xs c.args.place) (sym c.operand_constraints.ensures) ∙ none) in (
      λ is. absurd (false≢true is),
      λ met. absurd (met_nowhere c.args.tables.now (entry_of c.args.entry) c.args.place nowhere met),
    )
