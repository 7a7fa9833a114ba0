use Rattle.std.proofs.Common.{refl, ap}
use Rattle.meta_inst.specs.Content.{instruction_text}
use Rattle.meta_types.proofs.Writing.{written_all}
use Rattle.meta_inst.proofs.content.InstructionContentDisplay.fmt.Goals as goal

pub returns-clause-writes : goal.returns-clause-writes
returns-clause-writes g c = written_all g.W.Write.write_str_gives _ _ _ _ _ _ _ _ _ (λ p. c.in_ok-write_outputs.ensures p refl)
    (λ p. c.in_ok-write_str.ensures.writes p refl) c.write_inputs.ensures
    (rw (c.as_slice.ensures.value, c.as_str.ensures, c.as_slice-2.ensures.value) (ap instruction_text c.self.view_is))
