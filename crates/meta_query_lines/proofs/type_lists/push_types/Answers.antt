use Rattle.std.proofs.Common.{◌≡◌, ◌++◌, List, ℕ, OnOk, string_bytes, inl, inr, refl, sym, subst}
use Rattle.std.proofs.lemmas.Result.{on_ok_weaker}
use Rattle.meta_query_lines.specs.Explanation.{AreTypesOf}
use Rattle.meta_query_lines.proofs.ExplanationLemmas.{named_opcode}
use Rattle.meta_query_lines.proofs.type_lists.push_types.Goals as goal

pub returns-in_default : goal.returns-in_default
returns-in_default c =
    on_ok_weaker c.push_text.result (λ e. (_, inr (c.in_default.ensures.none, refl), e)) c.push_text.ensures

pub push_types_under-requires : goal.push_types_under-requires
push_types_under-requires c =
    named_opcode c.args.tables.now c.in-Some.opcode c.args.name.now c.opcode_count-count.ensures.named c.in-Some.ensures.found.holds

pub push_shapes-requires : goal.push_shapes-requires
push_shapes-requires c =
    named_opcode c.args.tables.now c.in-Some.opcode c.args.name.now c.opcode_count-count.ensures.named c.in-Some.ensures.found.holds

pub returns-in-Some-controls : goal.returns-in-Some-controls
returns-in-Some-controls c =
    subst (λ o. OnOk c.push_types_under.result ((text : List ℕ) × AreTypesOf c.args.tables.now c.args.name.now o text
    × (string_bytes c.push_types_under.new.out ≡ string_bytes c.args.out.now ++ text))) (sym c.in-Some-controls.is)
    (on_ok_weaker c.push_types_under.result (λ h. (h.0, inl (c.in-Some.opcode, c.in-Some.ensures.found, h.1), h.2))
    c.push_types_under.ensures)

pub returns-in-None : goal.returns-in-None
returns-in-None c =
    subst (λ o. OnOk c.push_shapes.result ((text : List ℕ) × AreTypesOf c.args.tables.now c.args.name.now o text
    × (string_bytes c.push_shapes.new.out ≡ string_bytes c.args.out.now ++ text))) (sym c.in-None.is)
    (on_ok_weaker c.push_shapes.result (λ h. (h.0, inl (c.in-Some.opcode, c.in-Some.ensures.found, h.1), h.2))
    c.push_shapes.ensures)
