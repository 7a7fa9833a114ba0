use Rattle.std.proofs.Common.{rules}
use Rattle.meta_settings.proofs.group.SettingGroup.booleans.Goals as goal

pub returns-clause-booleans : goal.returns-clause-booleans
returns-clause-booleans c = search rules
