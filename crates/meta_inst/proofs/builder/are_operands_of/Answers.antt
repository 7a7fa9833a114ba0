use Rattle.std.proofs.Common.{refl, subst, List}
use Rattle.meta_operands.specs.declared.operand.Operand.{Operand}
use Rattle.std.proofs.lemmas.List.{take_all}
use Rattle.meta_operands.specs.Operand.{variables_of}
use Rattle.meta_inst.specs.Operands.{AreOf}
use Rattle.meta_inst.proofs.OperandsOf.{one_more_is_of, one_of_all, told}
use Rattle.meta_inst.proofs.builder.are_operands_of.Goals as goal

pub returns-then-not-is_operand_of : goal.returns-then-not-is_operand_of
returns-then-not-is_operand_of c =
    told c.is_operand_of.result _ _ c.if-not-is_operand_of.true c.is_operand_of.ensures
    (one_of_all c.args.vars.now c.args.operands.now c.loop-operand.operand-index c.operand-item.result c.loop-operand-test.true
    c.operand-item.is)

pub loop-operand-preserved : goal.loop-operand-preserved
loop-operand-preserved c =
    one_more_is_of c.args.vars.now c.args.operands.now c.loop-operand.operand-index c.operand-item.result c.loop-operand-test.true
    c.operand-item.is c.loop-operand.invariant (c.is_operand_of.ensures.0 c.if-not-is_operand_of.false)

pub returns : goal.returns
returns c = (
  (λ e. subst (λ (xs : List Operand). AreOf c.args.vars.now (variables_of xs))
      (take_all _ _ c.loop-operand-test.false) c.loop-operand.invariant),
  (λ a. refl),
)
