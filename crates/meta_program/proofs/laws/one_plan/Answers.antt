use Rattle.meta_program.proofs.OnePlan.{same_plan}
use Rattle.meta_program.proofs.laws.one_plan.Goals as goal

pub returns : goal.returns
returns c = same_plan c.one_tool.ensures
