use Rattle.std.proofs.Common.{◌≤◌, length}
use Rattle.meta_command_line.specs.Misuse.{AreNumbersTo}
use Rattle.meta_command_line.proofs.misuse.after.Given as goal

-- the words so far write their numbers
abbrev pub invariant-loop-k : goal.invariant-loop-k
invariant-loop-k l = record {
  numbers : AreNumbersTo l.k l.numbers l.words;
  there : l.k ≤ length l.words;
}
