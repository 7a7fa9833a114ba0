use Rattle.std.proofs.Common.{ℕ, Bool, Option, IfSome, IfNone, string_bytes, sym, ap, ◌∙◌, subst}
use Rattle.std.proofs.lemmas.Result.{IfOk-weaker}
use Rattle.meta_lines.specs.Lines.{lines_of}
use Rattle.meta_gen.specs.Reply.{AllowedReply}
use Rattle.meta_verify.specs.Defined.{definitions}
use Rattle.meta_verify.specs.Verdict.{wrong_text, AreRight, IsVerdict}
use Rattle.meta_verify.specs.Why.{IsFoundWrong}
use Rattle.meta_verify.specs.declared.verdict.WrongLine.{WrongLine}
use Rattle.meta_verify.proofs.verdict.verdict.Goals as goal

pub returns-in-None : goal.returns-in-None
returns-in-None c =
    let R = AllowedReply c.args.tables.now.opcodes in
    let right = subst (λ (o : Option WrongLine). IfNone o (AreRight R (lines_of c.args.input.now))) c.in-None.is
    c.in_ok-first_wrong.ensures.right in
    IfOk-weaker c.right.result _ _
    (λ answer h. subst (λ (b : Bool). IsVerdict R c.args.input.now b (string_bytes answer.text)) (sym h.0) (right, h.1))
    c.right.ensures

pub returns : goal.returns
returns c =
    let R = AllowedReply c.args.tables.now.opcodes in
    let found = subst (λ (o : Option WrongLine). IfSome o (IsFoundWrong R (lines_of c.args.input.now)
    (definitions c.first_wrong.new.checker))) c.in-Some.is c.in_ok-first_wrong.ensures.wrong in
    subst (λ (b : Bool). IsVerdict R c.args.input.now b (string_bytes c.rejection.result.text)) (sym c.rejection.ensures.rejects) (
      found.place,
      c.in-Some.wrong.reason,
      found.first,
      c.rejection.ensures.text ∙ c.in_ok-wrong_line-in-Some.ensures ∙ ap (λ (k : ℕ). wrong_text k c.in-Some.wrong.reason) found.number,
    )
