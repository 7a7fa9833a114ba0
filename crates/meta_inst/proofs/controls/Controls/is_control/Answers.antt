use Rattle.meta_inst.proofs.ControlLemmas.{found_one}
use Rattle.meta_inst.proofs.controls.Controls.is_control.Goals as goal

pub returns : goal.returns
returns c = found_one c.args.self.now c.args.tv c.find.result c.is_some.result c.find.ensures.found c.find.ensures.none c.is_some.ensures
