use Rattle.std.proofs.Common.{◌∙◌, sym, map}
use Rattle.std.specs.Cmp.Lexicographic.{other_text}
use Rattle.std.proofs.lemmas.List.Elements.{All-push}
use Rattle.meta_types.specs.TypeNumber.{type_with, IsTypeNumber}
use Rattle.meta_lines.proofs.TypeListLemmas.{lists_no_types, lists_types, one_more, first_named, next_named}
use Rattle.meta_lines.proofs.type_list.read_types.Goals as goal

pub returns-in_default-clause-none : goal.returns-in_default-clause-none
returns-in_default-clause-none c = λ e ts named.
    lists_no_types (map type_with c.loop-name.numbers.items) ts c.in-Some.name.now c.args.word.now _ _
    (λ e. other_text _ _ c.if-eq.ensures (e ∙ sym c.as_slice.ensures))
    c.loop-name.invariant.named c.in-Some.ensures.steps c.in_default.ensures.none named

pub returns-clause-found : goal.returns-clause-found
returns-clause-found c = λ e. lists_types _ _ _ c.loop-name.invariant.named c.in-None.ensures.steps.0

pub loop-name-preserved : goal.loop-name-preserved
loop-name-preserved c =
    let is = c.in-Some-type_number.ensures.found in
    record {
      known = rw c.in_ok-push.ensures.items
          (All-push IsTypeNumber c.loop-name.numbers.items c.in-Some-type_number.number c.loop-name.invariant.known is.number);
      named = rw c.in_ok-push.ensures.items (one_more c.loop-name.numbers.items c.in-Some-type_number.number _ _ _ _
          c.loop-name.invariant.named c.in-Some.ensures.steps is.named);
    }

pub returns-in_default-clause-front : goal.returns-in_default-clause-front
returns-in_default-clause-front c = first_named c.loop-name.numbers.items c.args.word.now _ c.loop-name.invariant.named

pub returns-in_default-clause-stop : goal.returns-in_default-clause-stop
returns-in_default-clause-stop c =
    λ e. next_named c.loop-name.numbers.items c.args.word.now c.in-Some.name.now _ _ c.loop-name.invariant.named c.in-Some.ensures.steps
    c.in_default.ensures.none

pub returns-clause-front : goal.returns-clause-front
returns-clause-front c = first_named c.loop-name.numbers.items c.args.word.now _ c.loop-name.invariant.named
