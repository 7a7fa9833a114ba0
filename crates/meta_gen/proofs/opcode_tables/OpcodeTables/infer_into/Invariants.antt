use Rattle.std.proofs.Common.{◌≡◌, ◌<◌, ◌≤◌, ◌+◌, ℕ, length, get_or}
use Rattle.meta_inst.specs.Which.{both}
use Rattle.meta_inst.specs.Inference.{GivesAt}
use Rattle.meta_gen.proofs.opcode_tables.OpcodeTables.infer_into.Given as goal

-- the numbers so far are given, and the others are as they were
abbrev pub invariant-loop-k : goal.invariant-loop-k
invariant-loop-k l = record {
  long : length l.numbers ≡ 7;
  same : length l.numbers ≡ length l.initial.numbers;
  given : (j : ℕ) → j < l.k → GivesAt l.self (both l.controls.ctrl l.controls.second) (l.offset + j) (get_or l.numbers j 0);
  rest : (j : ℕ) → l.k ≤ j → get_or l.numbers j 0 ≡ get_or l.initial.numbers j 0;
}
