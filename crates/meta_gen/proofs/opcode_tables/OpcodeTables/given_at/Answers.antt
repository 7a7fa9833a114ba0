use Rattle.std.proofs.Common.{◌≡◌, List, Some, slice_get, map, ap, ◌∙◌, sym, refl}
use Rattle.std.proofs.lemmas.Option.{slice_get_read}
use Rattle.meta_lists.proofs.Mapped.{get_map}
use Rattle.meta_inst.specs.Tables.{TableContents, NumberConstraint}
use Rattle.meta_gen.specs.Constraint.{number_constraint_of}
use Rattle.meta_gen.proofs.Reading.{none_mapped}
use Rattle.meta_gen.proofs.Inferring.{given_read, none_read, nothing_given}
use Rattle.meta_gen.proofs.opcode_tables.OpcodeTables.given_at.Goals as goal
use Rattle.meta_gen.proofs.opcode_tables.OpcodeTables.given_at.Goals.{After-given}

-- the constraint that was read stands in the tables
read : (c : After-given) → slice_get c.args.self.now.operand_constraints c.args.place ≡ Some (number_constraint_of c.in-Some.constraint.now)
read c =
    let own = ap (map number_constraint_of) c.deref.ensures.value ∙ ap (λ (t : TableContents). t.operand_constraints) c.self.view_is in
    let l = c.in-Some.ensures.lookup.3 in
    let at = slice_get_read c.deref.result.now _ c.args.place c.in-Some.constraint.now refl l.0 (l.1 _) in
    ap (λ (xs : List NumberConstraint). slice_get xs c.args.place) (sym own)
    ∙ get_map number_constraint_of c.deref.result.now c.args.place _ at

pub returns-in-Some-clause-some : goal.returns-in-Some-clause-some
returns-in-Some-clause-some c = given_read _ _ _ _ _ (read c) c.given.ensures.some

pub returns-in-Some-clause-none : goal.returns-in-Some-clause-none
returns-in-Some-clause-none c = none_read _ _ _ _ _ (read c) c.given.ensures.none

pub returns-in-None-clause-none : goal.returns-in-None-clause-none
returns-in-None-clause-none c =
    let own = ap (map number_constraint_of) c.deref.ensures.value ∙ ap (λ (t : TableContents). t.operand_constraints) c.self.view_is in
    nothing_given _ _ _ (ap (λ (xs : List NumberConstraint). slice_get xs c.args.place) (sym own)
    ∙ none_mapped c.deref.result.now c.args.place c.in-None.ensures.lookup.3)
