use Rattle.std.proofs.Common.{◌≡◌, ◌≤◌, [], length}
use Rattle.meta_text.proofs.Taken.{Took}
use Rattle.meta_text.proofs.whole.write_whole.Given as goal

abbrev pub invariant-loop-rest : goal.invariant-loop-rest
invariant-loop-rest g l = record {
  taken : Took l.bytes l.rest (g.K.Sink.taken l.initial.sink) (g.K.Sink.taken l.sink);
  counted : g.K.Sink.faults l.initial.sink ≤ g.K.Sink.faults l.sink;
  no_bytes : l.bytes ≡ [] → l.sink ≡ l.initial.sink;
}

abbrev pub decreases-loop-rest : goal.decreases-loop-rest
decreases-loop-rest g l = length l.rest
