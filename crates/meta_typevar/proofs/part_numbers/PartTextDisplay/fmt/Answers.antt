use Rattle.std.proofs.Common.{refl, sym}
use Rattle.meta_typevar.proofs.SetText.{part_shown}
use Rattle.meta_types.proofs.Writing.{written_both}
use Rattle.meta_typevar.proofs.part_numbers.PartTextDisplay.fmt.Goals as goal
use Rattle.meta_typevar.proofs.part_numbers.PartTextDisplay.fmt.Goals.{then-self+in_ok-write_str, else-self}

pub returns-clause-writes : goal.returns-clause-writes
returns-clause-writes g c = rw (part_shown c.args.self.now.name.now c.args.self.now.numbers c.args.self.now.follows
    (sym c.if-not-has_some.ensures)) (elim c.if-self.branch [
      | then-self+in_ok-write_str w ↦
          rw w.if-self.true (written_both g.W.Write.write_str_gives _ _ _ _ _ _ _ (λ p. w.in_ok-write_str.ensures.writes p refl)
          (rw w.f-is at c.write.ensures.writes) refl)
      | else-self w ↦ rw w.if-self.false (rw w.f-is at c.write.ensures.writes)
    ])
