use Rattle.std.proofs.Common.{arith}
use Rattle.meta_rust_names.specs.Groups.{group_refused, groups_refused}
use Rattle.meta_rust_names.proofs.Placed.{next_placed, no_placed}
use Rattle.meta_rust_names.proofs.groups.push_groups.Goals as goal

pub loop-number-preserved : goal.loop-number-preserved
loop-number-preserved c =
    next_placed (group_refused) c.args.groups.now c.loop-number.number c.index-groups-number.result _ _ _
    (omega (arith, c.loop-number-test.true)) c.index-groups-number.is c.in_ok-push_group.ensures c.loop-number.invariant

pub returns : goal.returns
unfolding groups_refused
returns c =
    no_placed (group_refused) c.args.groups.now c.loop-number.number _ _
    (omega (arith, c.loop-number-test.false)) c.loop-number.invariant
