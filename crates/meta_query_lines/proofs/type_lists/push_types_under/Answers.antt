use Rattle.std.proofs.Common.{inl, inr, refl, sym, ◌∙◌}
use Rattle.std.proofs.lemmas.Bool.{false≢true}
use Rattle.std.proofs.lemmas.Result.{on_ok_weaker}
use Rattle.meta_query_lines.proofs.type_lists.push_types_under.Goals as goal

pub returns-then-not-accepts_some : goal.returns-then-not-accepts_some
returns-then-not-accepts_some c =
    on_ok_weaker c.push_text.result
    (λ e. (_, inr (λ some. false≢true (sym c.if-not-accepts_some.true ∙ c.accepts_some.ensures.1 some), refl), e)) c.push_text.ensures

pub returns : goal.returns
returns c =
    on_ok_weaker c.push_all_operands.result
    (λ h. (h.0, inl (c.accepts_some.ensures.0 c.if-not-accepts_some.false, h.1), h.2)) c.push_all_operands.ensures
