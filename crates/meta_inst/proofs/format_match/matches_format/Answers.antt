use Rattle.std.proofs.Common.{rules}
use Rattle.meta_inst.proofs.format_match.matches_format.Goals as goal

pub returns : goal.returns
returns c = search rules
