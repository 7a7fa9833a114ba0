use Rattle.std.proofs.Common.{arith}
use Rattle.meta_rust_names.specs.Groups.{setting_refused, settings_refused}
use Rattle.meta_rust_names.proofs.Placed.{next_placed, no_placed}
use Rattle.meta_rust_names.proofs.groups.push_settings.Goals as goal

pub loop-number-preserved : goal.loop-number-preserved
loop-number-preserved c =
    next_placed (setting_refused c.args.place) c.args.settings.now c.loop-number.number c.index-settings-number.result _ _ _
    (omega (arith, c.loop-number-test.true)) c.index-settings-number.is c.in_ok-push_setting.ensures c.loop-number.invariant

pub returns : goal.returns
unfolding settings_refused
returns c =
    no_placed (setting_refused c.args.place) c.args.settings.now c.loop-number.number _ _
    (omega (arith, c.loop-number-test.false)) c.loop-number.invariant
