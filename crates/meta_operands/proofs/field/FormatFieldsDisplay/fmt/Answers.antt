use Rattle.std.proofs.Common.{refl, sym, ap, ◌∙◌}
use Rattle.meta_operands.specs.FormatText.{fields_text}
use Rattle.meta_types.proofs.Writing.{written_both}
use Rattle.meta_operands.proofs.field.FormatFieldsDisplay.fmt.Goals as goal

pub returns-clause-writes : goal.returns-clause-writes
returns-clause-writes g c = written_both g.W.Write.write_str_gives _ _ _ _ _ _ _
    (λ p. c.in_ok-write.ensures.writes p refl) c.write_more.ensures
    (ap fields_text (sym c.in-Some.ensures.cases.0 ∙ c.deref.ensures.value ∙ c.self.view_is))
