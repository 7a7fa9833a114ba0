-- A contract can't see the bytes that this source has left, so the clauses on them say nothing.
use Rattle.std.proofs.Common.{refl}
use Rattle.meta_text.proofs.Any.{any_got, any_end, any_read_failed}
use Rattle.meta_text.proofs.std_source.StdSourceSource.TheImpl.Goals as goal

pub read-tells : goal.read-tells
read-tells g c = record {
  in_range = c.ensures.in_range;
  got = any_got _ _ (λ n. refl);
  rest = c.ensures.rest;
  end = any_end _ _ tt;
  end_keeps = any_end _ _ refl;
  failed_keeps = any_read_failed _ _ refl;
  fault = c.ensures.fault;
  else_no_fault = c.ensures.else_no_fault;
  counted = c.ensures.counted;
}
