use Rattle.std.proofs.Common.{arith}
use Rattle.meta_rust_names.specs.Instructions.{output_refused, outputs_refused}
use Rattle.meta_rust_text.proofs.OperandVariables.{operand_of_registry}
use Rattle.meta_rust_names.proofs.Placed.{next_placed, no_placed}
use Rattle.meta_rust_names.proofs.instructions.push_outputs.Goals as goal

pub push_output-requires : goal.push_output-requires
push_output-requires c tv has =
    operand_of_registry c.args.vars.now c.args.outputs.now c.loop-number.number c.index-outputs-number.result tv
    c.requires (omega (arith, c.loop-number-test.true)) c.index-outputs-number.is has

pub loop-number-preserved : goal.loop-number-preserved
loop-number-preserved c =
    next_placed (output_refused c.args.vars.now c.args.place) c.args.outputs.now c.loop-number.number c.index-outputs-number.result _ _ _
    (omega (arith, c.loop-number-test.true)) c.index-outputs-number.is c.in_ok-push_output.ensures c.loop-number.invariant

pub returns : goal.returns
unfolding outputs_refused
returns c =
    no_placed (output_refused c.args.vars.now c.args.place) c.args.outputs.now c.loop-number.number _ _
    (omega (arith, c.loop-number-test.false)) c.loop-number.invariant
