use Rattle.std.proofs.Common.{ap, ◌∙◌, ◌≡◌, ◌++◌, List, ℕ, OnOk, string_bytes, refl, sym, subst}
use Rattle.std.proofs.lemmas.Result.{on_ok_weaker}
use Rattle.meta_gen.specs.Constraint.{entry_of}
use Rattle.meta_explain.specs.Texts.{alternatives_text}
use Rattle.meta_query_lines.specs.Explanation.{IsOperandTold}
use Rattle.meta_query_lines.proofs.type_lists.push_operand.Goals as goal

pub returns-in_default : goal.returns-in_default
returns-in_default c =
    subst (λ o. OnOk c.push_demand_at.result ((word : List ℕ) × IsOperandTold c.args.tables.now c.args.opcode (entry_of c.args.entry) o c.args.k word
    × (string_bytes c.push_demand_at.new.out ≡ string_bytes c.args.out.now ++ word))) (sym c.in_default.is)
    (on_ok_weaker c.push_demand_at.result (λ h. (_, (h.0, h.1, refl), h.2)) c.push_demand_at.ensures)

pub returns : goal.returns
returns c =
    subst (λ o. OnOk c.push_alternatives.result ((word : List ℕ)
    × IsOperandTold c.args.tables.now c.args.opcode (entry_of c.args.entry) o c.args.k word
    × (string_bytes c.push_alternatives.new.out ≡ string_bytes c.args.out.now ++ word))) (sym c.in-Some.is)
    (on_ok_weaker c.push_alternatives.result (λ e. (
      alternatives_text c.in_ok-types.types.items,
      (c.in_ok-types.types.items, c.in_ok-types.ensures.listed, refl),
      e ∙ ap (λ (ns : List ℕ). string_bytes c.args.out.now ++ alternatives_text ns) c.deref.ensures.value,
    )) c.push_alternatives.ensures)
