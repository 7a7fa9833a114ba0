use Rattle.std.proofs.Common.{◌++◌, ◌∙◌, ap, arith}
use Rattle.std.proofs.Math.Path.{fun_ext}
use Rattle.meta_rust_text.proofs.OperandVariables.{operand_of_registry}
use Rattle.meta_rust_names.specs.Forms.{has_form}
use Rattle.meta_rust_names.specs.Inputs.{names_of_input, input_why, input_refused, input_at, inputs_refused}
use Rattle.meta_rust_names.proofs.Placed.{next_placed, no_placed}
use Rattle.meta_rust_names.proofs.Growing.{known_more, known_all}
use Rattle.meta_rust_names.proofs.inputs.push_inputs.Goals as goal

pub push_input-requires : goal.push_input-requires
push_input-requires c tv has =
    operand_of_registry c.args.vars.now c.args.inputs.now c.loop-number.number c.index-inputs-number.result tv
    c.requires (omega (arith, c.loop-number-test.true)) c.index-inputs-number.is has

pub loop-number-preserved : goal.loop-number-preserved
loop-number-preserved c =
    let i = c.loop-number.number in
    let input = c.index-inputs-number.result in
    let why = c.in_ok-why.ensures
    ∙ ap (λ known. input_why c.args.instruction.now c.args.format.now known input) (fun_ext c.loop-number.invariant.known_names) in
    record {
      added = next_placed (input_at c.args.vars.now c.args.instruction.now c.args.format.now c.args.place c.args.inputs.now)
          c.args.inputs.now i input _ _ _ (omega (arith, c.loop-number-test.true)) c.index-inputs-number.is
          (c.in_ok-push_input.ensures
          ∙ ap (λ w. c.loop-number.out.items ++ input_refused c.args.vars.now c.args.instruction.now c.args.place w (i, input)) why)
          c.loop-number.invariant.added;
      known_names = λ text. known_more (λ name. has_form name text) names_of_input c.args.inputs.now i input _ _
          (omega (arith, c.loop-number-test.true)) c.index-inputs-number.is (c.in_ok-add_input.ensures text)
          (c.loop-number.invariant.known_names text);
    }

pub returns-clause-pushed : goal.returns-clause-pushed
unfolding inputs_refused
returns-clause-pushed c =
    no_placed (input_at c.args.vars.now c.args.instruction.now c.args.format.now c.args.place c.args.inputs.now)
    c.args.inputs.now c.loop-number.number _ _ (omega (arith, c.loop-number-test.false)) c.loop-number.invariant.added

pub returns-clause-names : goal.returns-clause-names
returns-clause-names c = λ text. known_all (λ name. has_form name text) names_of_input c.args.inputs.now c.loop-number.number _
    (omega (arith, c.loop-number-test.false)) (c.loop-number.invariant.known_names text)
