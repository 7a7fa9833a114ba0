use Rattle.std.proofs.Common.{arith}
use Rattle.std.proofs.lemmas.Bool.{false≢true}
use Rattle.meta_inst.proofs.Matching.{no_match, all_match}
use Rattle.meta_inst.proofs.format_match.are_fields.Goals as goal

pub returns-in_default : goal.returns-in_default
returns-in_default c = (
  (λ t. absurd (false≢true t)),
  (λ e. absurd (no_match c.args.operands.now c.args.fields.now c.loop-operand.left.now c.loop-operand.operand-index c.operand-item.result
      c.loop-operand-test.true c.operand-item.is c.loop-operand.invariant c.in_default.ensures.other e)),
)

pub returns : goal.returns
returns c = all_match c.args.operands.now c.args.fields.now c.loop-operand.left.now c.loop-operand.operand-index c.is_empty.result
    (omega (arith, c.loop-operand-test.false, c.loop-operand.auto.operand-index-end)) c.loop-operand.invariant c.is_empty.ensures
