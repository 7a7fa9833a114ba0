-- A write took the front of what was left to write.
use Rattle.std.proofs.Common.{arith}
use Rattle.meta_text.proofs.Taken.{took_next, took_of_none}
use Rattle.meta_text.proofs.whole.write_whole.Goals as goal

pub loop-rest-preserved : goal.loop-rest-preserved
loop-rest-preserved g c = record {
  taken = rw c.split_at.ensures.back (took_next _ _ _ _ _ _ c.loop-rest.invariant.taken c.in-Wrote.ensures.wrote);
  counted = omega (arith, c.in-Wrote.ensures.counted, c.loop-rest.invariant.counted);
  no_bytes =
      λ none. absurd (took_of_none _ _ _ _ _ c.loop-rest.invariant.taken none c.in-Wrote.ensures.in_range.0 c.in-Wrote.ensures.in_range.1);
}
