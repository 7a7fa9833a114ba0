use Rattle.std.proofs.Common.{ℕ, ◌==◌, ◌++◌, List, ◌∙◌, string_bytes, arith}
use Rattle.meta_operands.specs.declared.operand.Operand.{Operand}
use Rattle.meta_rust_text.specs.Arguments.{argument_text}
use Rattle.meta_rust_text.specs.ImmBuilders.{input_type, input_arguments}
use Rattle.meta_rust_text.proofs.Pieces.{next_placed, no_placed}
use Rattle.meta_rust_text.proofs.imm_inputs.input_arguments.Goals as goal

pub loop-place-preserved : goal.loop-place-preserved
loop-place-preserved c =
    let text : ℕ × Operand → List ℕ = λ input. argument_text input.1.name (input_type input.1 (input.0 == c.args.immediate)) in
    let added = c.in_ok-push_argument.ensures
    ∙ (λ i. string_bytes c.loop-place.text ++ argument_text (c.as_str.ensures i) (c.input_type-ty.ensures i)) in
    next_placed text c.args.inputs.now c.loop-place.place c.index-inputs-place.result _ _ _
    (omega (arith, c.loop-place-test.true)) c.index-inputs-place.is added c.loop-place.invariant

pub returns : goal.returns
unfolding input_arguments
returns c =
    let text : ℕ × Operand → List ℕ = λ input. argument_text input.1.name (input_type input.1 (input.0 == c.args.immediate)) in
    no_placed text c.args.inputs.now c.loop-place.place _ _ (omega (arith, c.loop-place-test.false)) c.loop-place.invariant
