use Rattle.std.proofs.Common.{◌++◌, codes, string_bytes, ap, ◌∙◌, append_assoc}
use Rattle.meta_rust_text.proofs.Pieces.{next_name}
use Rattle.meta_rust_text.proofs.imm_inputs.input_names.Goals as goal

pub loop-input-preserved : goal.loop-input-preserved
loop-input-preserved c =
    let text = string_bytes c.loop-input.text in
    let name = c.as_str-in-loop-input.result.now in
    next_name _ c.loop-input.input-index c.input-item.result text
    (string_bytes c.push_str-in-loop-input-2.new.self) _ c.loop-input-test.true c.input-item.is
    (c.in_ok-push_str-3.ensures.bytes ∙ ap (λ t. t ++ name) c.in_ok-push_str-2.ensures.bytes
    ∙ append_assoc text (codes ", ") name ∙ ap (λ n. text ++ (codes ", " ++ n)) c.as_str-in-loop-input.ensures)
    c.loop-input.invariant
