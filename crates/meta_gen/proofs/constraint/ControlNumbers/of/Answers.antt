use Rattle.std.proofs.Common.{sym, ap}
use Rattle.meta_inst.specs.Which.{both}
use Rattle.meta_inst.specs.Controls.{which_of}
use Rattle.meta_gen.proofs.constraint.ControlNumbers.of.Goals as goal

pub returns-in-Second : goal.returns-in-Second
returns-in-Second c = ap (λ w. both c.args.self.ctrl c.args.self.second (which_of w)) (sym c.in-Second.is)
