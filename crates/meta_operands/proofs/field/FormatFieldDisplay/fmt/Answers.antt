use Rattle.std.proofs.Common.{refl}
use Rattle.meta_types.proofs.Writing.{written_all}
use Rattle.meta_operands.proofs.field.FormatFieldDisplay.fmt.Goals as goal

pub returns-clause-writes : goal.returns-clause-writes
returns-clause-writes g c = written_all g.W.Write.write_str_gives _ _ _ _ _ _ _ _ _ (λ p. c.in_ok-write_str.ensures.writes p refl)
    (λ p. c.in_ok-write_str-2.ensures.writes p refl) c.write_str-3.ensures.writes (rw (c.as_str.ensures, c.as_str-2.ensures) refl)
