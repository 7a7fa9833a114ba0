use Rattle.std.proofs.Common.{subst, IfOk, IfSome, IfNone}
use Rattle.meta_gen.specs.Reply.{AllowedReply}
use Rattle.meta_verify.specs.Environment.{Environment}
use Rattle.meta_verify.specs.Numbers.{stated}
use Rattle.meta_verify.specs.Wrong.{IsMistake, IsFaultless}
use Rattle.meta_verify.proofs.CheckerLemmas.{seen, named_seen}
use Rattle.meta_verify.proofs.checker.Checker.mistake.Goals as goal

pub returns-clause-mistake : goal.returns-clause-mistake
returns-clause-mistake c =
    subst (λ (env : Environment). IfOk c.mistake_of.result
    (λ o. IfSome o (λ reason. IsMistake (AllowedReply c.args.tables.now.opcodes) env (stated c.args.statement.now) reason)))
    (seen c.self.inside.types c.args.self.now c.self.view_is) c.mistake_of.ensures.mistake

pub returns-clause-none : goal.returns-clause-none
returns-clause-none c =
    subst (λ (env : Environment). IfOk c.mistake_of.result
    (λ o. IfNone o (IsFaultless (AllowedReply c.args.tables.now.opcodes) env (stated c.args.statement.now))))
    (seen c.self.inside.types c.args.self.now c.self.view_is) c.mistake_of.ensures.none

pub returns-clause-named : goal.returns-clause-named
returns-clause-named c = named_seen c.self.inside.types c.args.self.now c.self.view_is c.self.invariant
