use Rattle.std.proofs.Common.{sym, ◌∙◌}
use Rattle.std.proofs.lemmas.Bool.{false≢true}
use Rattle.meta_inst.proofs.ControlLemmas.{neither}
use Rattle.meta_inst.proofs.controls.Controls.find.Goals as goal

pub returns-clause-none : goal.returns-clause-none
returns-clause-none c =
    neither c.args.self.now c.args.tv
    (λ e. false≢true (sym c.if-is_first.false ∙ c.is_first.ensures.1 e))
    (λ e. false≢true (sym c.if-is_second.false ∙ c.is_second.ensures.1 e))

pub returns-then-is_second-clause-first : goal.returns-then-is_second-clause-first
returns-then-is_second-clause-first c e = absurd (false≢true (sym c.if-is_first.false ∙ c.is_first.ensures.1 e))

pub returns-clause-first : goal.returns-clause-first
returns-clause-first c e = absurd (false≢true (sym c.if-is_first.false ∙ c.is_first.ensures.1 e))
