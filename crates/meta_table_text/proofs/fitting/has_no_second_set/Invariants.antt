use Rattle.std.proofs.Common.{ℕ, ◌≤◌}
use Rattle.meta_table_text.specs.Fits.{LacksSecondSet}
use Rattle.meta_table_text.proofs.fitting.has_no_second_set.Given as goal

abbrev pub invariant-loop-before : goal.invariant-loop-before
invariant-loop-before l = (op : ℕ) → op ≤ l.before → LacksSecondSet l.tables.opcodes op
