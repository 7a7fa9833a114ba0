use Rattle.std.proofs.Common.{◌≡◌, [], Option, Some, IfSome, IfNone, string_bytes, append-nil, sym, ◌∙◌}
use Rattle.std.proofs.Common.{subst, rules}
use Rattle.std.proofs.lemmas.Bool.{false≢true}
use Rattle.std.proofs.lemmas.Result.{on_ok_weaker}
use Rattle.meta_gen.specs.Reply.{AllowedReply}
use Rattle.meta_verify.specs.Defined.{definitions}
use Rattle.meta_verify.specs.Statement as spec
use Rattle.meta_verify.specs.Numbers.{typed_value_of, stated, HasTypeNumbers}
use Rattle.meta_verify.specs.declared.statement.Statement.{Statement}
use Rattle.meta_verify.specs.declared.statement.Statement.TheVariants.{Parameter, Applied}
use Rattle.meta_verify.proofs.WhyLemmas.{told_nothing, told_refused, refused_line, no_parameter, states_something}
use Rattle.meta_verify.proofs.checker.Checker.push_why.Goals as goal

pub returns-then-not-is_refused : goal.returns-then-not-is_refused
returns-then-not-is_refused c = (
  [],
  told_nothing _ _ _ c.args.reason (λ e. false≢true (sym c.if-not-is_refused.true ∙ c.is_refused.ensures.1 e)),
  sym (append-nil (string_bytes c.args.out.now)),
)

pub push_refusal-requires-clause-numbers : goal.push_refusal-requires-clause-numbers
push_refusal-requires-clause-numbers c =
    let is : c.in_ok-application.field-0 ≡ Some (Applied c.in-Some-Applied.application) = search rules in
    subst (λ (o : Option Statement). IfSome o HasTypeNumbers) is c.in_ok-application.ensures.known

pub push_refusal-requires-clause-refused : goal.push_refusal-requires-clause-refused
push_refusal-requires-clause-refused c =
    let is : c.in_ok-application.field-0 ≡ Some (Applied c.in-Some-Applied.application) = search rules in
    let found = subst (λ (o : Option Statement). IfSome o (λ s. spec.IsStatement c.args.line.now (stated s))) is
    c.in_ok-application.ensures.found in
    refused_line (AllowedReply c.args.tables.now.opcodes) (definitions c.args.self.now) c.args.line.now _ c.args.reason
    (c.is_refused.ensures.0 c.if-not-is_refused.false) found c.requires

pub returns-in-Some-Applied : goal.returns-in-Some-Applied
returns-in-Some-Applied c =
    let is : c.in_ok-application.field-0 ≡ Some (Applied c.in-Some-Applied.application) = search rules in
    let found = subst (λ (o : Option Statement). IfSome o (λ s. spec.IsStatement c.args.line.now (stated s))) is
    c.in_ok-application.ensures.found in
    on_ok_weaker c.push_refusal.result
    (λ (more, told, e). (
      more,
      told_refused c.args.tables.now.opcodes (definitions c.args.self.now) c.args.line.now c.args.reason
          c.in-Some-Applied.application more (c.is_refused.ensures.0 c.if-not-is_refused.false) found told,
      e,
    ))
    c.push_refusal.ensures

pub returns-in-Some-Parameter : goal.returns-in-Some-Parameter
returns-in-Some-Parameter c =
    let is : c.in_ok-application.field-0 ≡ Some (Parameter c.in-Some-Parameter._parameter) = search rules in
    let found = subst (λ (o : Option Statement). IfSome o (λ s. spec.IsStatement c.args.line.now (stated s))) is
    c.in_ok-application.ensures.found in
    let h = refused_line (AllowedReply c.args.tables.now.opcodes) (definitions c.args.self.now) c.args.line.now _ c.args.reason
    (c.is_refused.ensures.0 c.if-not-is_refused.false) found c.requires in
    absurd (no_parameter (AllowedReply c.args.tables.now.opcodes) (definitions c.args.self.now)
    (typed_value_of c.in-Some-Parameter._parameter) h)

pub returns-in-None : goal.returns-in-None
returns-in-None c =
    let none = subst (λ (o : Option Statement). IfNone o ((s : spec.Statement) → spec.IsStatement c.args.line.now s
    → ⊥)) c.in-None.is c.in_ok-application.ensures.none in
    absurd (states_something (AllowedReply c.args.tables.now.opcodes) (definitions c.args.self.now) c.args.line.now c.args.reason
    (c.is_refused.ensures.0 c.if-not-is_refused.false) none c.requires)
