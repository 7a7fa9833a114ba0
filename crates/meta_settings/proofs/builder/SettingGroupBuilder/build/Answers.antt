use Rattle.std.proofs.Common.{rules}
use Rattle.meta_settings.proofs.builder.SettingGroupBuilder.build.Goals as goal

pub returns-in-Some-clause-refused : goal.returns-in-Some-clause-refused
returns-in-Some-clause-refused c = search rules
