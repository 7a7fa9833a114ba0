use Rattle.std.proofs.Common.{refl}
use Rattle.meta_types.proofs.Writing.{written_both}
use Rattle.meta_types.proofs.fault.write_two.Goals as goal

pub returns : goal.returns
returns g c = written_both g.W.Write.write_str_gives _ _ _ _ _ _ _
    (λ p. c.in_ok-write_numbered.ensures p refl) c.write_numbered-2.ensures refl
