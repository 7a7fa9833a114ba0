use Rattle.std.proofs.Common.{rules, sym, map}
use Rattle.meta_rust_insts.proofs.MethodTemplates.{reading_same}
use Rattle.meta_rust_insts.proofs.data_impl.push_reading_methods.Goals as goal

pub returns : goal.returns
returns c = rw (sym (reading_same (map (λ f. f.now) c.args.formats.now))) (search rules)
