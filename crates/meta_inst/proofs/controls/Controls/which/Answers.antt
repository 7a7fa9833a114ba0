use Rattle.std.proofs.Common.{sym, ◌∙◌}
use Rattle.std.proofs.lemmas.Bool.{false≢true}
use Rattle.meta_inst.proofs.ControlLemmas.{the_other}
use Rattle.meta_inst.proofs.controls.Controls.which.Goals as goal

pub returns-clause-is : goal.returns-clause-is
returns-clause-is c =
    the_other c.args.self.now c.args.tv (λ e. false≢true (sym c.if-is_first.false ∙ c.is_first.ensures.1 e)) c.requires

pub returns-clause-first : goal.returns-clause-first
returns-clause-first c e = absurd (false≢true (sym c.if-is_first.false ∙ c.is_first.ensures.1 e))
