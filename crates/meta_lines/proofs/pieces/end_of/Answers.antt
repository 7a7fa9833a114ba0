use Rattle.std.proofs.Common.{◌∙◌}
use Rattle.meta_lines.proofs.PieceLemmas.{place_or_len}
use Rattle.meta_lines.proofs.pieces.end_of.Goals as goal

pub returns : goal.returns
returns c = c.unwrap_or.ensures ∙ place_or_len c.args.stop c.args.text.now c.place_of.result c.place_of.ensures
