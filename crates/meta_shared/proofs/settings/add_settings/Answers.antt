use Rattle.meta_shared.proofs.SettingRows.{settings_more}
use Rattle.meta_shared.proofs.settings.add_settings.Goals as goal

pub loop-row-preserved : goal.loop-row-preserved
loop-row-preserved c = settings_more c.args.rows.now _ _ _ _ _ c.loop-row-test.true c.loop-row.invariant c.in_ok-add_setting.ensures
