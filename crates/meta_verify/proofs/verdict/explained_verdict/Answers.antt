use Rattle.std.proofs.Common.{ℕ, Bool, Option, IfSome, IfNone, string_bytes, sym, ap, ◌∙◌, subst}
use Rattle.std.proofs.lemmas.Result.{IfOk-weaker}
use Rattle.meta_lines.specs.Lines.{lines_of}
use Rattle.meta_gen.specs.Reply.{AllowedReply}
use Rattle.meta_verify.specs.Defined.{definitions}
use Rattle.meta_verify.specs.Verdict.{AreRight}
use Rattle.meta_verify.specs.Why.{explained_text, IsFoundWrong, IsExplainedVerdict}
use Rattle.meta_verify.specs.declared.verdict.WrongLine.{WrongLine}
use Rattle.meta_verify.proofs.WhyLemmas.{found_wrong, found_told}
use Rattle.meta_verify.proofs.verdict.explained_verdict.Goals as goal

pub returns-in-None : goal.returns-in-None
returns-in-None c =
    let R = AllowedReply c.args.tables.now.opcodes in
    let right = subst (λ (o : Option WrongLine). IfNone o (AreRight R (lines_of c.args.input.now))) c.in-None.is
    c.in_ok-first_wrong.ensures.right in
    IfOk-weaker c.right.result _ _
    (λ answer h. subst (λ (b : Bool). IsExplainedVerdict R c.args.tables.now.opcodes c.args.input.now b (string_bytes answer.text))
    (sym h.0) (right, h.1))
    c.right.ensures

pub explained_line-requires : goal.explained_line-requires
explained_line-requires c =
    let R = AllowedReply c.args.tables.now.opcodes in
    let found = subst (λ (o : Option WrongLine). IfSome o (IsFoundWrong R (lines_of c.args.input.now)
    (definitions c.first_wrong.new.checker))) c.in-Some.is c.in_ok-first_wrong.ensures.wrong in
    found_wrong R (lines_of c.args.input.now) (definitions c.first_wrong.new.checker) c.in-Some.wrong found

pub returns : goal.returns
returns c =
    let R = AllowedReply c.args.tables.now.opcodes in
    let found = subst (λ (o : Option WrongLine). IfSome o (IsFoundWrong R (lines_of c.args.input.now)
    (definitions c.first_wrong.new.checker))) c.in-Some.is c.in_ok-first_wrong.ensures.wrong in
    let (more, told, is) = c.in_ok-explained_line-in-Some.ensures in
    subst (λ (b : Bool). IsExplainedVerdict R c.args.tables.now.opcodes c.args.input.now b (string_bytes c.rejection.result.text))
    (sym c.rejection.ensures.rejects) (
      found.place,
      c.in-Some.wrong.reason,
      found.first,
      more,
      found_told R c.args.tables.now.opcodes (lines_of c.args.input.now) (definitions c.first_wrong.new.checker) c.in-Some.wrong more found
          told,
      c.rejection.ensures.text ∙ is ∙ ap (λ (k : ℕ). explained_text k c.in-Some.wrong.reason more) found.number,
    )
