use Rattle.std.proofs.Common.{◌≡◌, ◌≤◌, ◌*◌, length}
use Rattle.meta_query.specs.Synth.{AreInstructions}
use Rattle.meta_query.proofs.generator.synth.Given as goal

-- the instructions so far
abbrev pub invariant-loop-place : goal.invariant-loop-place
invariant-loop-place l = record {
  instructions : AreInstructions l.vars l.n l.instructions;
  count : length l.instructions ≡ l.place;
  few : length l.vars ≤ 2 * l.place;
}
