use Rattle.std.proofs.Common.{rules}
use Rattle.meta_settings.proofs.setting.Setting.default_byte.Goals as goal

pub returns-then-b : goal.returns-then-b
returns-then-b c = search rules
