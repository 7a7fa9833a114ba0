use Rattle.std.proofs.Common.{subst, sym}
use Rattle.meta_operands.specs.Operand.{variables_of}
use Rattle.meta_inst.specs.Operands.{AreOf}
use Rattle.meta_rust_text.proofs.OperandVariables.{operand_of_registry}
use Rattle.meta_rust_text.proofs.method_docs.inputs_docs.Goals as goal

pub push_input_docs-requires : goal.push_input_docs-requires
push_input_docs-requires c tv has =
    operand_of_registry c.args.vars.now c.operands_in-inputs.result.now c.loop-input.input-index c.input-item.result tv
    (subst (λ i. AreOf c.args.vars.now (variables_of i)) (sym c.operands_in-inputs.ensures) c.requires)
    c.loop-input-test.true c.input-item.is has
