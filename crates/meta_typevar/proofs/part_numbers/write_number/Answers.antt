use Rattle.std.proofs.Common.{refl}
use Rattle.meta_types.proofs.Writing.{written_both}
use Rattle.meta_typevar.proofs.part_numbers.write_number.Goals as goal
use Rattle.meta_typevar.proofs.part_numbers.write_number.Goals.{then-follows+in_ok-write_str, else-follows}

pub returns : goal.returns
returns g c = elim c.if-follows.branch [
  | then-follows+in_ok-write_str w ↦
      rw w.if-follows.true (written_both g.W.Write.write_str_gives _ _ _ _ _ _ _ (λ p. w.in_ok-write_str.ensures.writes p refl)
      (rw w.f-is at c.write.ensures.writes) refl)
  | else-follows w ↦ rw w.if-follows.false (rw w.f-is at c.write.ensures.writes)
]
