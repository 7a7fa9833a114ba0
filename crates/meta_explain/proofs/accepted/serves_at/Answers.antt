use Rattle.std.proofs.Common.{List, slice_get, refl, sym, ap, ◌∙◌}
use Rattle.std.specs.Option.{option_map}
use Rattle.std.proofs.lemmas.Option.{slice_get_read, slice_get-map, slice_get_past}
use Rattle.meta_lists.proofs.Mapped.{get_map}
use Rattle.meta_inst.specs.Controls.{which_of}
use Rattle.meta_inst.specs.Tables.{NumberConstraint}
use Rattle.meta_gen.specs.Constraint.{number_constraint_of}
use Rattle.meta_explain.proofs.Serving.{serves_here, serves_nowhere}
use Rattle.meta_explain.proofs.accepted.serves_at.Goals as goal

pub returns-in-Some : goal.returns-in-Some
returns-in-Some c =
    let own = c.operand_constraints.result.now in
    let l = c.in-Some.ensures.lookup.3 in
    let read = slice_get_read own _ c.args.place c.in-Some.constraint.now refl l.0 (l.1 _) in
    let at = get_map number_constraint_of own c.args.place _ read in
    let here = sym (ap (λ (xs : List NumberConstraint). slice_get xs c.args.place) (sym c.operand_constraints.ensures) ∙ at) in
    let both = serves_here c.args.tables.now (which_of c.args.which) c.args.number c.args.place
    (number_constraint_of c.in-Some.constraint.now) here in
    (λ t. both.0 (c.serves.ensures.0 t), λ s. c.serves.ensures.1 (both.1 s))

pub returns-in-None : goal.returns-in-None
returns-in-None c =
    let own = c.operand_constraints.result.now in
    let none = slice_get-map number_constraint_of own c.args.place
    ∙ ap (option_map number_constraint_of) (slice_get_past own c.args.place c.in-None.ensures.lookup.3) in
    let nowhere = sym (ap (λ (xs : List NumberConstraint). slice_get xs c.args.place) (sym c.operand_constraints.ensures) ∙ none) in
    (λ t. serves_nowhere c.args.tables.now (which_of c.args.which) c.args.number c.args.place nowhere, λ s. refl)
