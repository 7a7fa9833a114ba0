use Rattle.std.proofs.Common.{ℕ, codes, ◌++◌, string_bytes, refl, append_assoc, sym, ◌∙◌}
use Rattle.meta_rust_text.proofs.After.{one_part}
use Rattle.meta_rust_text.proofs.results.value_types.Goals as goal

pub loop-before-preserved : goal.loop-before-preserved
loop-before-preserved c = one_part (λ (number : ℕ). codes "Value") c.loop-before._before (string_bytes c.loop-before.text)
    (string_bytes c.loop-before.text ++ codes ", ") (string_bytes c.push_str.new.self) c.loop-before.invariant refl
    (c.in_ok-push_str.ensures.bytes ∙ sym (append_assoc (string_bytes c.loop-before.text) (codes ", ") (codes "Value")))
