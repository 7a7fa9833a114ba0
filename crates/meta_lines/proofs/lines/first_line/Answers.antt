use Rattle.std.proofs.Common.{refl}
use Rattle.meta_lines.proofs.LineLemmas.{next_line}
use Rattle.meta_lines.proofs.lines.first_line.Goals as goal

pub returns : goal.returns
returns c = next_line _ _ _ c.cut.result.1 _ _ c.requires c.cut.ensures c.without_cr.ensures c.unwrap_or.ensures refl
