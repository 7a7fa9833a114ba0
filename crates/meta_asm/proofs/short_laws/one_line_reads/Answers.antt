use Rattle.meta_asm.proofs.OneLine.{one_line}
use Rattle.meta_asm.proofs.DeclaredLine.{one_line_declared}
use Rattle.meta_asm.proofs.short_laws.one_line_reads.Goals as goal

pub returns : goal.returns
returns c = record { tables = one_line; declared = one_line_declared }
