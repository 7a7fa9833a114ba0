use Rattle.std.proofs.Common.{◌<◌, ◌+◌, ℕ}
use Rattle.meta_inst.specs.Controls.{which_of}
use Rattle.meta_explain.specs.Serving.{ServesAt}
use Rattle.meta_explain.proofs.accepted.is_serving.Given as goal

-- it serves for the operands so far
abbrev pub invariant-loop-k : goal.invariant-loop-k
invariant-loop-k l = (k : ℕ) → k < l.k → ServesAt l.tables (which_of l.which) l.number (l.offset + k)
