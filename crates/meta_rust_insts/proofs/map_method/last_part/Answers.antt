use Rattle.std.proofs.Common.{◌++◌, codes, sym, ap, ◌∙◌}
use Rattle.meta_rust_insts.proofs.LastPart.{lacking, found}
use Rattle.meta_rust_insts.proofs.map_method.last_part.Goals as goal

pub returns-in-Some : goal.returns-in-Some
returns-in-Some c =
    let cut = c.in-Some.ensures.cases in
    let path = c.args.path.now in
    sym (found cut.0 path c.in-Some.last.now path (cut.2.1.split ∙ ap (λ back. codes "::" ++ back) (sym cut.4)) cut.2.0)

pub returns-in-None : goal.returns-in-None
returns-in-None c = sym (lacking c.args.path.now c.args.path.now c.in-None.ensures.cases)
