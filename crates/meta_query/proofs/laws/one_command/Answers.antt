use Rattle.meta_query.proofs.Commands.{same_command}
use Rattle.meta_query.proofs.laws.one_command.Goals as goal

pub returns : goal.returns
returns c = same_command
