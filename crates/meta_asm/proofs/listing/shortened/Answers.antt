use Rattle.std.proofs.Common.{ℕ, Bool, List, Option, IfSome, IfNone, false, string_bytes, sym, ap, ◌∙◌, subst}
use Rattle.meta_lines.specs.Lines.{lines_of}
use Rattle.meta_gen.specs.Reply.{AllowedReply}
use Rattle.meta_verify.specs.Defined.{definitions}
use Rattle.meta_verify.specs.Verdict.{wrong_text}
use Rattle.meta_verify.specs.Why.{IsFoundWrong}
use Rattle.meta_verify.specs.declared.verdict.WrongLine.{WrongLine}
use Rattle.meta_asm.specs.Manners.{IsMannerIn}
use Rattle.meta_asm.specs.Listing.{IsShortened}
use Rattle.meta_asm.proofs.listing.shortened.Goals as goal

pub returns-in-None : goal.returns-in-None
returns-in-None c =
    let R = AllowedReply c.args.tables.now.opcodes in
    let M = IsMannerIn c.args.tables.now.opcodes in
    let right = subst (λ (o : Option WrongLine). IfNone o (IsShortened R M c.args.input.now false
    (string_bytes c.push_short_forms.new.text))) c.in-None.is c.in_ok-push_short_forms.ensures.right in
    subst (λ (b : Bool). IsShortened R M c.args.input.now b (string_bytes c.accepted.result.text)) (sym c.accepted.ensures.accepts)
    (subst (λ (t : List ℕ). IsShortened R M c.args.input.now false t) (sym c.accepted.ensures.text) right)

pub returns : goal.returns
returns c =
    let R = AllowedReply c.args.tables.now.opcodes in
    let M = IsMannerIn c.args.tables.now.opcodes in
    let found = subst (λ (o : Option WrongLine). IfSome o (IsFoundWrong R (lines_of c.args.input.now)
    (definitions c.push_short_forms.new.checker))) c.in-Some.is c.in_ok-push_short_forms.ensures.wrong in
    subst (λ (b : Bool). IsShortened R M c.args.input.now b (string_bytes c.rejection.result.text)) (sym c.rejection.ensures.rejects) (
      found.place,
      c.in-Some.wrong.reason,
      found.first,
      c.rejection.ensures.text ∙ c.in_ok-wrong_line-in-Some.ensures ∙ ap (λ (k : ℕ). wrong_text k c.in-Some.wrong.reason) found.number,
    )
