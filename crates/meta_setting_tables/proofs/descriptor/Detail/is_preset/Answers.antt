use Rattle.std.proofs.Common.{rules}
use Rattle.meta_setting_tables.proofs.descriptor.Detail.is_preset.Goals as goal

pub returns-in-Num : goal.returns-in-Num
returns-in-Num c = search rules
