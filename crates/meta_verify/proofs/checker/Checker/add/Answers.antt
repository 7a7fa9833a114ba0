use Rattle.std.proofs.Common.{ap, ◌∙◌, inl}
use Rattle.meta_verify.specs.Environment.{with_values, first_redefined}
use Rattle.meta_verify.specs.Numbers.{stated}
use Rattle.meta_verify.specs.Defined.{Entries, definitions}
use Rattle.meta_verify.specs.Statement.{defined_by}
use Rattle.meta_verify.proofs.CheckerLemmas.{mistake_seen, faultless_seen}
use Rattle.meta_verify.proofs.checker.Checker.add.Goals as goal

pub returns-in-Some-clause-added : goal.returns-in-Some-clause-added
returns-in-Some-clause-added c = λ line states. (
  inl (
    stated c.args.statement.now,
    states,
    mistake_seen c.args.tables.now.opcodes c.self.inside.types c.args.self.now
        (stated c.args.statement.now) c.self.view_is c.in_ok-mistake.mistake c.in-Some.reason c.in-Some.is c.in_ok-mistake.ensures.mistake,
  ),
  ap definitions c.self.view_is,
)

pub define-requires-clause-fresh : goal.define-requires-clause-fresh
define-requires-clause-fresh c =
    let faultless = faultless_seen c.args.tables.now.opcodes c.self.inside.types c.args.self.now
    (stated c.args.statement.now) c.self.view_is c.in_ok-mistake.mistake c.in_default.is c.in_ok-mistake.ensures.none in
    ap (λ (e : Entries). first_redefined (definitions e) (defined_by (stated c.args.statement.now))) c.self.view_is ∙ faultless.fresh

pub returns-clause-added : goal.returns-clause-added
returns-clause-added c = λ line states.
    let faultless = faultless_seen c.args.tables.now.opcodes c.self.inside.types c.args.self.now
    (stated c.args.statement.now) c.self.view_is c.in_ok-mistake.mistake c.in_default.is c.in_ok-mistake.ensures.none in (
      stated c.args.statement.now,
      (states, faultless),
      c.in_ok-define.ensures.defined
          ∙ ap (λ (e : Entries). with_values (definitions e) (defined_by (stated c.args.statement.now))) c.self.view_is,
    )
