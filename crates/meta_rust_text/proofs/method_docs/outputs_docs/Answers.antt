use Rattle.meta_rust_text.proofs.OperandVariables.{operand_of_registry}
use Rattle.meta_rust_text.proofs.method_docs.outputs_docs.Goals as goal

pub operand_doc-requires : goal.operand_doc-requires
operand_doc-requires c tv has =
    operand_of_registry c.args.vars.now c.args.outputs.now c.loop-output.output-index c.output-item.result tv
    c.requires c.loop-output-test.true c.output-item.is has
