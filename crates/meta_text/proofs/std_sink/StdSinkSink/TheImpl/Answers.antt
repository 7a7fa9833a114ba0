-- A contract can't see the bytes that this sink took, so the clauses on them say nothing.
use Rattle.std.proofs.Common.{refl}
use Rattle.meta_text.proofs.Any.{any_wrote, any_write_failed}
use Rattle.meta_text.proofs.std_sink.StdSinkSink.TheImpl.Goals as goal

pub write-tells : goal.write-tells
write-tells g c = record {
  in_range = c.ensures.in_range;
  wrote = any_wrote _ _ (λ n. refl);
  failed_keeps = any_write_failed _ _ refl;
  fault = c.ensures.fault;
  counted = c.ensures.counted;
}
