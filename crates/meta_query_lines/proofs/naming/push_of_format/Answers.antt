use Rattle.std.proofs.Common.{inl, inr, refl, sym, ◌∙◌, subst}
use Rattle.std.proofs.lemmas.Result.{on_ok_weaker}
use Rattle.meta_explain.specs.Listed.{AreListed, IsLess}
use Rattle.meta_query_lines.specs.Explanation.{HasFormat}
use Rattle.meta_query_lines.proofs.AddedLemmas.{none_listed, some_listed}
use Rattle.meta_query_lines.proofs.naming.push_of_format.Goals as goal

pub returns-then-is_empty : goal.returns-then-is_empty
returns-then-is_empty c =
    let P = HasFormat c.args.tables.now c.args.name.now in
    let listed = subst (AreListed IsLess P) (sym c.as_slice-listed.ensures.value) c.in_ok-opcodes.ensures in
    on_ok_weaker c.push_text.result
    (λ e. (_, inr (none_listed P c.as_slice-listed.result.now listed (sym c.if-is_empty.true ∙ c.is_empty.ensures), refl), e))
    c.push_text.ensures

pub returns : goal.returns
returns c =
    let P = HasFormat c.args.tables.now c.args.name.now in
    let listed = subst (AreListed IsLess P) (sym c.as_slice-listed.ensures.value) c.in_ok-opcodes.ensures in
    on_ok_weaker c.push_opcodes.result
    (λ e. (
      _,
      inl (
        some_listed P c.as_slice-listed.result.now listed (sym c.if-is_empty.false ∙ c.is_empty.ensures),
        record { opcodes = c.as_slice-listed.result.now; listed = listed; is = refl },
      ),
      e,
    ))
    c.push_opcodes.ensures
