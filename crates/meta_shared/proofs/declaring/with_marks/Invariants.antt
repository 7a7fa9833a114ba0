use Rattle.std.proofs.Common.{◌≡◌, drop}
use Rattle.meta_shared.specs.Rows.{marks_added}
use Rattle.meta_shared.proofs.declaring.with_marks.Given as goal

-- with the marks that are left the builder has all
abbrev pub invariant-loop-mark : goal.invariant-loop-mark
invariant-loop-mark l = record l.builder { marks = marks_added l.builder.marks (drop l.mark-index l.marks) }
    ≡ record l.initial.builder { marks = marks_added l.initial.builder.marks l.marks }
