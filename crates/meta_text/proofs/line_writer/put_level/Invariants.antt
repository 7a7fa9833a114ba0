use Rattle.std.proofs.Common.{[]}
use Rattle.meta_text.specs.Lines.{indented}
use Rattle.meta_text.proofs.Writing.{Writing}
use Rattle.meta_text.proofs.line_writer.put_level.Given as goal

-- the spaces of the levels that are left are still to be written
abbrev pub invariant-loop-left : goal.invariant-loop-left
invariant-loop-left g l = Writing g.K.Sink.taken g.K.Sink.faults (indented l.level []) (indented l.left []) l.initial.sink l.sink

abbrev pub decreases-loop-left : goal.decreases-loop-left
decreases-loop-left g l = l.left
