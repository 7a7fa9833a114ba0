use Rattle.std.proofs.Common.{ap, arith, length, refl}
use Rattle.std.proofs.lemmas.Option.{slice_get_read, slice_get_within}
use Rattle.std.proofs.lemmas.Result.{IfOk-from_err}
use Rattle.meta_lists.proofs.Pushed.{one_longer}
use Rattle.meta_gen.proofs.Describing.{one_more}
use Rattle.meta_gen.proofs.operand_constraints.constraints_of.Goals as goal

pub next_constraint-constraint-requires-clause-held : goal.next_constraint-constraint-requires-clause-held
next_constraint-constraint-requires-clause-held c =
    c.requires.held _ _ (slice_get_read c.args.variables.now _ _ _ refl c.loop-place-test.true c.index-variables-place.is)

pub next_constraint-constraint-requires-clause-constrained : goal.next_constraint-constraint-requires-clause-constrained
next_constraint-constraint-requires-clause-constrained c =
    c.requires.constrained _ _ (slice_get_read c.args.variables.now _ _ _ refl c.loop-place-test.true c.index-variables-place.is)

pub loop-place-preserved : goal.loop-place-preserved
loop-place-preserved c =
    let added = c.in_ok-push.ensures.items in
    let longer = one_longer _ _ _ added in
    let count = c.loop-place.invariant.count in
    record {
      count = omega arith;
      described = one_more _ _ _ _ _ _ added _ _ _ count
          (slice_get_read c.args.variables.now _ _ _ refl c.loop-place-test.true c.index-variables-place.is)
          c.next_constraint-constraint.ensures c.loop-place.invariant.described;
      before = c.next_constraint-constraint.ensures;
    }

pub returns : goal.returns
returns c =
    let past = c.loop-place-test.false in
    let within = c.loop-place.auto.place-end in
    let count = c.loop-place.invariant.count in
    record {
      count = omega arith;
      each = λ k n at. let l = slice_get_within c.args.variables.now k n at in c.loop-place.invariant.described k n (omega arith) at;
    }

pub loop-place-init : goal.loop-place-init
loop-place-init c = record {
  count = ap length c.in_ok-constraints.ensures.items;
  described = λ k n below at. absurd (omega arith);
  before = tt;
}

pub next_constraint-constraint-requires-clause-of_registry : goal.next_constraint-constraint-requires-clause-of_registry
next_constraint-constraint-requires-clause-of_registry c =
    c.requires.variables _ _ (slice_get_read c.args.variables.now _ _ _ refl c.loop-place-test.true c.index-variables-place.is)

pub next_constraint-constraint-requires-clause-controls : goal.next_constraint-constraint-requires-clause-controls
next_constraint-constraint-requires-clause-controls c = c.requires.controls

pub next_constraint-constraint-requires-clause-few : goal.next_constraint-constraint-requires-clause-few
next_constraint-constraint-requires-clause-few c = c.requires.few

pub next_constraint-constraint-requires-clause-before : goal.next_constraint-constraint-requires-clause-before
next_constraint-constraint-requires-clause-before c = c.loop-place.invariant.before

pub returns-in_err-constraints : goal.returns-in_err-constraints
returns-in_err-constraints c = IfOk-from_err c.from_residual.result _ c.from_residual.ensures.0

pub returns-in_err-push : goal.returns-in_err-push
returns-in_err-push c = IfOk-from_err c.from_residual-in_err-push.result _ c.from_residual-in_err-push.ensures.0
