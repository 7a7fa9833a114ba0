use Rattle.std.proofs.Common.{IfSome, subst}
use Rattle.meta_gen.specs.Reply.{AllowedReply}
use Rattle.meta_verify.specs.Statement.{IsStatement}
use Rattle.meta_verify.specs.Numbers.{stated}
use Rattle.meta_verify.specs.Defined.{definitions}
use Rattle.meta_asm.proofs.Writing.{wrong_by}
use Rattle.meta_asm.proofs.print.push_line.Goals as goal

pub returns-then-is_some-clause-wrong : goal.returns-then-is_some-clause-wrong
returns-then-is_some-clause-wrong c = λ e.
    let states = subst (λ o. IfSome o (λ s. IsStatement c.args.line.now (stated s))) c.in-Some.is c.in_ok-statement.ensures.found in
    wrong_by (AllowedReply c.args.tables.now.opcodes) (definitions c.args.checker.now) c.args.line.now
    (stated c.in-Some.statement) c.in_ok-mistake.field-0 c.if-is_some.ensures states c.in_ok-mistake.ensures.mistake
