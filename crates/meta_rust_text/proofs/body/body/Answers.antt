use Rattle.std.proofs.Common.{ℕ, List, [], length, refl, ap, ◌∙◌, ◌++◌, string_bytes}
use Rattle.meta_rust_text.specs.MethodBody.{prepared_text, control_text, value_list_of, results_lines, body_text}
use Rattle.meta_rust_text.proofs.After.{after}
use Rattle.meta_rust_text.proofs.body.body.Goals as goal

pub returns : goal.returns
unfolding body_text
returns c =
    after [] _ _ _ _ _
    (c.in_ok-push_prepared.ensures ∙ ap (λ o. o ++ prepared_text c.operands_in-inputs.result.now) c.new-out.ensures.bytes)
    (ap prepared_text c.operands_in-inputs.ensures)
    (after _ _ _ _ _ _ c.in_ok-push_control.ensures (ap (λ p. control_text p c.designated_name-designated.result.now)
    c.polymorphic_info.ensures
    ∙ ap (control_text c.args.instruction.now.polymorphic_info) c.designated_name-designated.ensures)
    (after _ _ _ _ _ _ c.in_ok-push_list.ensures (ap (value_list_of c.args.format.now.has_value_list) c.operands_in-inputs.ensures)
    (after _ _ _ _ _ _ c.in_ok-push_call.ensures refl
    (c.in_ok-push_results.ensures ∙ ap (λ t. string_bytes c.push_call.new.out ++ t) (ap (λ (r : List ℕ). results_lines (length r))
    c.value_results.ensures)))))
