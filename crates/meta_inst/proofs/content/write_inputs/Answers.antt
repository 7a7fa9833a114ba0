use Rattle.std.proofs.Common.{refl}
use Rattle.meta_types.proofs.Writing.{written_all}
use Rattle.meta_inst.proofs.content.write_inputs.Goals as goal

pub returns : goal.returns
returns g c = written_all g.W.Write.write_str_gives _ _ _ _ _ _ _ _ _ (λ p. c.in_ok-write_str.ensures.writes p refl)
    (λ p. c.in_ok-write_str-2.ensures.writes p refl) c.write_more.ensures (rw (c.as_str.ensures, c.in-Some.ensures.cases.0) refl)
