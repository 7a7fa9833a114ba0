use Rattle.std.proofs.Common.{arith}
use Rattle.meta_rust_names.specs.Groups.{value_refused, values_refused}
use Rattle.meta_rust_names.proofs.Placed.{next_placed, no_placed}
use Rattle.meta_rust_names.proofs.groups.push_values.Goals as goal

pub loop-number-preserved : goal.loop-number-preserved
loop-number-preserved c =
    next_placed (value_refused c.args.place c.args.setting) c.args.values.now c.loop-number.number c.index-values-number.result _ _ _
    (omega (arith, c.loop-number-test.true)) c.index-values-number.is c.in_ok-push_value.ensures c.loop-number.invariant

pub returns : goal.returns
unfolding values_refused
returns c =
    no_placed (value_refused c.args.place c.args.setting) c.args.values.now c.loop-number.number _ _
    (omega (arith, c.loop-number-test.false)) c.loop-number.invariant
