use Rattle.std.proofs.Common.{ℕ, ◌==◌, ◌++◌, List, ◌∙◌, string_bytes, arith}
use Rattle.meta_operands.specs.declared.operand.Operand.{Operand}
use Rattle.meta_rust_text.specs.Docs.{doc_item_text}
use Rattle.meta_rust_text.specs.ImmBuilders.{input_doc, input_docs}
use Rattle.meta_rust_text.proofs.OperandVariables.{operand_of_registry}
use Rattle.meta_rust_text.proofs.Pieces.{next_placed, no_placed}
use Rattle.meta_rust_text.proofs.imm_inputs.input_docs.Goals as goal

pub input_doc-doc-requires : goal.input_doc-doc-requires
input_doc-doc-requires c = λ tv has. operand_of_registry c.args.vars.now c.args.inputs.now c.loop-place.place c.index-inputs-place.result
    tv c.requires (omega (arith, c.loop-place-test.true)) c.index-inputs-place.is has

pub loop-place-preserved : goal.loop-place-preserved
loop-place-preserved c =
    let text : ℕ × Operand → List ℕ = λ input. doc_item_text input.1.name (input_doc c.args.vars.now input.1 (input.0 == c.args.immediate))
    in
    let added = c.in_ok-push_doc_item.ensures
    ∙ (λ i. string_bytes c.loop-place.text ++ doc_item_text (c.as_str.ensures i) (c.input_doc-doc.ensures i)) in
    next_placed text c.args.inputs.now c.loop-place.place c.index-inputs-place.result _ _ _
    (omega (arith, c.loop-place-test.true)) c.index-inputs-place.is added c.loop-place.invariant

pub returns : goal.returns
unfolding input_docs
returns c =
    let text : ℕ × Operand → List ℕ = λ input. doc_item_text input.1.name (input_doc c.args.vars.now input.1 (input.0 == c.args.immediate))
    in
    no_placed text c.args.inputs.now c.loop-place.place _ _ (omega (arith, c.loop-place-test.false)) c.loop-place.invariant
