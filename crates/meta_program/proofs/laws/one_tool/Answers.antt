use Rattle.meta_program.proofs.OneTool.{same_tool}
use Rattle.meta_program.proofs.laws.one_tool.Goals as goal

pub returns : goal.returns
returns c = same_tool c.one_command.ensures
