use Rattle.meta_asm.proofs.OneLine.{one_line}
use Rattle.meta_asm.proofs.DeclaredLine.{one_line_declared}
use Rattle.meta_asm.proofs.short_laws.printed_lines_read.Goals as goal

pub returns : goal.returns
returns c = record {
  tables = λ tables well env line text short. (short, λ other reads. one_line tables well env text other line reads short);
  declared = λ d valid env line text short. (short, λ other reads. one_line_declared d valid env text other line reads short);
}
