use Rattle.std.proofs.Common.{◌≡◌, ◌++◌, ℕ, List, OnOk, string_bytes, sym, subst}
use Rattle.meta_gen.specs.Reply.{AllowedReply}
use Rattle.meta_verify.specs.Environment.{Environment}
use Rattle.meta_verify.specs.Statement.{OfApplication}
use Rattle.meta_verify.specs.Numbers.{applied}
use Rattle.meta_verify.specs.Why.{IsToldOf}
use Rattle.meta_verify.specs.Wrong.{IsMistake}
use Rattle.meta_verify.specs.declared.reason.Reason.TheVariants.{Refused}
use Rattle.meta_verify.proofs.CheckerLemmas.{seen}
use Rattle.meta_verify.proofs.checker.Checker.push_refusal.Goals as goal

pub push_why_refused-requires-clause-refused : goal.push_why_refused-requires-clause-refused
push_why_refused-requires-clause-refused c =
    subst (λ (env : Environment). IsMistake (AllowedReply c.args.tables.now.opcodes) env (OfApplication (applied c.args.application.now))
    Refused) (sym (seen c.self.inside.types c.args.self.now c.self.view_is)) c.requires.refused

pub returns : goal.returns
returns c =
    subst (λ (env : Environment). OnOk c.push_why_refused.result
    ((more : List ℕ) × IsToldOf c.args.tables.now.opcodes env (applied c.args.application.now) more
    × (string_bytes c.push_why_refused.new.out ≡ string_bytes c.args.out.now ++ more)))
    (seen c.self.inside.types c.args.self.now c.self.view_is) c.push_why_refused.ensures
