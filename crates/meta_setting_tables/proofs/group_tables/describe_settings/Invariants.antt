use Rattle.meta_setting_tables.proofs.DescribedSoFar.{SettingsTo}
use Rattle.meta_setting_tables.proofs.group_tables.describe_settings.Given as goal

-- the settings so far are described
abbrev pub invariant-loop-setting : goal.invariant-loop-setting
invariant-loop-setting l = SettingsTo l.settings l.setting-index l.enumerators l.descriptors.items
