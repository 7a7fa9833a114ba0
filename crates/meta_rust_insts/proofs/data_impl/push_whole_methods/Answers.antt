use Rattle.std.proofs.Common.{rules, sym, map}
use Rattle.meta_rust_insts.proofs.MethodTemplates.{whole_same}
use Rattle.meta_rust_insts.proofs.data_impl.push_whole_methods.Goals as goal

pub returns : goal.returns
returns c = rw (sym (whole_same (map (λ f. f.now) c.args.formats.now))) (search rules)
