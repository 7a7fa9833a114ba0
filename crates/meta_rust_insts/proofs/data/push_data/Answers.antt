use Rattle.std.proofs.Common.{rules, sym}
use Rattle.meta_rust_insts.proofs.EnumTemplates.{data_same}
use Rattle.meta_rust_insts.proofs.data.push_data.Goals as goal

pub returns : goal.returns
returns c = rw (sym (data_same c.args.built.now)) (search rules)
