use Rattle.std.proofs.Common.{ℕ, Option, sym, ap, ◌∙◌}
use Rattle.meta_inst.specs.Which.{Which, both}
use Rattle.meta_inst.specs.Controls.{which_of}
use Rattle.meta_inst.proofs.controls.Controls.get.Goals as goal

pub returns-in-First : goal.returns-in-First
returns-in-First c = ap (λ w. both c.self.inside.first c.self.inside.second (which_of w)) (sym c.in-First.is)
    ∙ ap (λ (f : Which → Option ℕ). f (which_of c.args.which)) c.self.view_is

pub returns-in-Second : goal.returns-in-Second
returns-in-Second c = ap (λ w. both c.self.inside.first c.self.inside.second (which_of w)) (sym c.in-Second.is)
    ∙ ap (λ (f : Which → Option ℕ). f (which_of c.args.which)) c.self.view_is
