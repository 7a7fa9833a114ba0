use Rattle.std.proofs.Common.{rules, sym}
use Rattle.meta_rust_insts.proofs.EnumTemplates.{formats_same}
use Rattle.meta_rust_insts.proofs.formats.push_formats.Goals as goal

pub returns : goal.returns
returns c = rw (sym (formats_same c.args.built.now)) (search rules)
