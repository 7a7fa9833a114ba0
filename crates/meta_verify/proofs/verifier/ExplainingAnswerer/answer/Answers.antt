use Rattle.std.proofs.Common.{string_bytes}
use Rattle.std.proofs.lemmas.Result.{IfOk-weaker}
use Rattle.meta_verify.proofs.verifier.ExplainingAnswerer.answer.Goals as goal

pub returns : goal.returns
returns c =
    IfOk-weaker c.explained_verdict.result _ _
    (λ answer h. c.verdicts_mean.ensures.explained c.args.built.now.declared _ c.declarations-declarations.ensures.valid
    c.in_ok-tables.ensures.tables.opcodes c.in_ok-tables.ensures.acceptance c.args.input.now answer.is_rejection
    (string_bytes answer.text) h)
    c.explained_verdict.ensures
