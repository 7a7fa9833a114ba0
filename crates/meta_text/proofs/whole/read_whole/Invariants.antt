use Rattle.std.proofs.Common.{◌≡◌, ◌+◌, ◌-◌, ◌≤◌, length}
use Rattle.meta_text.specs.Outside.{with_front, longest_input}
use Rattle.meta_text.proofs.whole.read_whole.Given as goal

abbrev pub invariant-loop-count : goal.invariant-loop-count
invariant-loop-count g l = record {
  given : g.S.Source.left l.initial.source ≡ with_front l.all.items (g.S.Source.left l.source);
  within : length l.all.items ≤ longest_input;
  no_fault : g.S.Source.faults l.source ≡ g.S.Source.faults l.initial.source;
}

abbrev pub decreases-loop-count : goal.decreases-loop-count
decreases-loop-count g l = longest_input + 1 - length l.all.items
