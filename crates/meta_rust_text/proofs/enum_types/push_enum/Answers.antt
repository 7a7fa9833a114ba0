use Rattle.std.proofs.Common.{rules, sym}
use Rattle.meta_rust_text.proofs.SettingTemplates.{enum_same}
use Rattle.meta_rust_text.proofs.enum_types.push_enum.Goals as goal

pub returns : goal.returns
returns c = rw (sym (enum_same c.args.group.now c.args.name.now c.args.values.now)) (search rules)
