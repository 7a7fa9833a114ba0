use Rattle.std.proofs.Common.{◌∙◌, sym, Option, ℕ, IfSome}
use Rattle.std.specs.Cmp.Lexicographic.{other_text}
use Rattle.std.proofs.lemmas.List.Elements.{All-push}
use Rattle.meta_types.specs.TypeNumber.{IsTypeNumber}
use Rattle.meta_query_lines.proofs.SoughtLemmas.{lists_nothing, lists_sought, one_more_sought}
use Rattle.meta_query_lines.proofs.sought.read_sought.Goals as goal

pub returns-in_default-clause-none : goal.returns-in_default-clause-none
returns-in_default-clause-none c = λ e os known.
    lists_nothing c.loop-name.sought.items os c.in-Some.name.now c.args.word.now _ _
    (λ e. other_text _ _ c.if-eq.ensures (e ∙ sym c.as_slice.ensures))
    c.loop-name.invariant.named c.in-Some.ensures.steps c.in_default.ensures.none known

pub returns-clause-found : goal.returns-clause-found
returns-clause-found c = λ e. lists_sought _ _ _ c.loop-name.invariant.named c.in-None.ensures.steps.0

pub loop-name-preserved : goal.loop-name-preserved
loop-name-preserved c =
    let is = c.in-Some-sought_type.ensures in
    record {
      known = rw c.in_ok-push.ensures.items
          (All-push (λ (o : Option ℕ). IfSome o IsTypeNumber) c.loop-name.sought.items c.in-Some-sought_type.number
          c.loop-name.invariant.known is.known);
      named = rw c.in_ok-push.ensures.items (one_more_sought c.loop-name.sought.items c.in-Some-sought_type.number _ _ _ _
          c.loop-name.invariant.named c.in-Some.ensures.steps is.named);
    }
