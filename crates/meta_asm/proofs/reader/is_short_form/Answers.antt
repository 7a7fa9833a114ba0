use Rattle.std.proofs.Common.{◌≡◌, ◌⊎◌, List, [], ℕ, Option, IfSome, IfNone, sym, ◌∙◌, subst}
use Rattle.meta_gen.specs.Reply.{AllowedReply}
use Rattle.meta_verify.specs.Wrong.{IsWrong}
use Rattle.meta_verify.specs.declared.reason.Reason.{Reason}
use Rattle.std.specs.Cmp.Lexicographic.{bytes_decides}
use Rattle.std.proofs.lemmas.Bool.{false≢true}
use Rattle.meta_verify.specs.Defined.{definitions}
use Rattle.meta_asm.specs.Reading.{IsShortIn}
use Rattle.meta_asm.proofs.OneLine.{one_form_in}
use Rattle.meta_asm.proofs.ReaderLemmas.{right_line}
use Rattle.meta_asm.proofs.reader.is_short_form.Goals as goal

pub returns-in-Some-clause-short : goal.returns-in-Some-clause-short
returns-in-Some-clause-short c = λ e.
    let short = subst (λ (o : Option (List ℕ)). IfSome o
    (λ t. IsShortIn c.args.tables.now.opcodes (definitions c.args.checker.now) c.args.line.now t)) c.in-Some.is
    c.in_ok-short.ensures.short in
    let same = (bytes_decides c.as_bytes.result.now c.args.text.now).0 (sym c.eq.ensures ∙ e) in
    subst (IsShortIn c.args.tables.now.opcodes (definitions c.args.checker.now) c.args.line.now) (sym c.as_bytes.ensures ∙ same) short

pub returns-in-Some-clause-other : goal.returns-in-Some-clause-other
returns-in-Some-clause-other c = λ e h.
    let short = subst (λ (o : Option (List ℕ)). IfSome o
    (λ t. IsShortIn c.args.tables.now.opcodes (definitions c.args.checker.now) c.args.line.now t)) c.in-Some.is
    c.in_ok-short.ensures.short in
    let same = one_form_in c.args.tables.now.opcodes (definitions c.args.checker.now) c.args.line.now _ _ short h in
    false≢true (sym e ∙ c.eq.ensures ∙ (bytes_decides c.as_bytes.result.now c.args.text.now).1 (c.as_bytes.ensures ∙ same))

pub returns-in-None-clause-other : goal.returns-in-None-clause-other
returns-in-None-clause-other c = λ e h.
    let none = subst (λ (o : Option (List ℕ)). IfNone o ((c.args.line.now ≡ [])
    ⊎ ((reason : Reason) × IsWrong (AllowedReply c.args.tables.now.opcodes)
    (definitions c.args.checker.now) c.args.line.now reason))) c.in-None.is c.in_ok-short.ensures.none in
    right_line c.args.tables.now.opcodes (definitions c.args.checker.now) c.args.line.now c.args.text.now h none
