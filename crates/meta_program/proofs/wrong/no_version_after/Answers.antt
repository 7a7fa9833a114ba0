use Rattle.std.proofs.Common.{sym, ◌∙◌}
use Rattle.meta_program.proofs.NotWrong.{no_truth, is_no_version}
use Rattle.meta_program.proofs.wrong.no_version_after.Goals as goal

pub returns : goal.returns
returns c =
    is_no_version c.args.words.now c.args.name.now c.args.option.now c.args.version.now c.args.after.now c.are_for_version.result
    c.requires c.are_for_version.ensures (λ v e. no_truth (sym c.if-is_version.false ∙ c.is_version.ensures.all (v, e)))
