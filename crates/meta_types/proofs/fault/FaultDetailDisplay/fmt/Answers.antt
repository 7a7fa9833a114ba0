use Rattle.std.proofs.Common.{refl, sym, ap, append_assoc}
use Rattle.meta_types.specs.Fault.{fault_detail_text}
use Rattle.meta_types.proofs.Writing.{written_both}
use Rattle.meta_types.proofs.fault.FaultDetailDisplay.fmt.Goals as goal

pub returns-in_ok-write_two-in-Four-clause-writes : goal.returns-in_ok-write_two-in-Four-clause-writes
returns-in_ok-write_two-in-Four-clause-writes g c = written_both g.W.Write.write_str_gives _ _ _ _ _ _ _
    (λ p. c.in_ok-write_two-in-Four.ensures p refl) c.write_two-in-Four-2.ensures (rw (c.in-Four.is, append_assoc) refl)
