use Rattle.std.proofs.Common.{refl, sym, ap}
use Rattle.meta_types.specs.Fault.{place_text}
use Rattle.meta_types.proofs.Writing.{written_both}
use Rattle.meta_types.proofs.fault.PlaceDisplay.fmt.Goals as goal

pub returns-in_ok-write_numbered-in-Entry-clause-writes : goal.returns-in_ok-write_numbered-in-Entry-clause-writes
returns-in_ok-write_numbered-in-Entry-clause-writes g c =
    written_both g.W.Write.write_str_gives _ _ _ _ _ _ _
    (λ p. c.in_ok-write_numbered-in-Entry.ensures p refl) c.write_numbered-in-Entry-2.ensures (ap place_text (sym c.in-Entry.is))
