use Rattle.std.proofs.Common.{sym, ◌∙◌}
use Rattle.meta_audit.proofs.opcodes.same_entry.Goals as goal

pub returns : goal.returns
returns c = (
  λ t. record {
    results = sym c.result_count.ensures.count ∙ (c.if-result_count.false ∙ c.result_count-2.ensures.count);
    values = sym c.value_count.ensures.count ∙ (c.if-value_count.false ∙ c.value_count-2.ensures.count);
    first = c.same_control.ensures.0 c.if-not-same_control.false;
    second = c.same_control-2.ensures.0 c.if-not-same_control-2.false;
    passes = c.same_operands.ensures.0 t;
  },
  λ s. c.same_operands.ensures.1 s.passes,
)
