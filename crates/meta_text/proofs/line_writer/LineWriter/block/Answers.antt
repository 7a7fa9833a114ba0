use Rattle.std.proofs.Common.{rules}
use Rattle.meta_text.proofs.line_writer.LineWriter.block.Goals as goal

pub returns-else-is_ok-clause-level_kept : goal.returns-else-is_ok-clause-level_kept
returns-else-is_ok-clause-level_kept c = search rules
