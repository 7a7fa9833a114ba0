use Rattle.meta_command_line.proofs.Taken as taken
use Rattle.meta_command_line.proofs.misuse.never_both.Goals as goal

pub returns : goal.returns
returns c = taken.never_both
