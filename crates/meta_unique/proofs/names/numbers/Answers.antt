use Rattle.std.proofs.Common.{◌≡◌, ap, arith, ◌∙◌}
use Rattle.meta_unique.specs.NameSlots.{numbers_from}
use Rattle.meta_unique.proofs.Numbered.{numbers_more}
use Rattle.meta_unique.proofs.names.numbers.Goals as goal

pub loop-place-init : goal.loop-place-init
loop-place-init c = c.in_ok-numbers.ensures.items

pub loop-place-preserved : goal.loop-place-preserved
loop-place-preserved c = numbers_more _ _ _ _ c.loop-place.invariant c.in_ok-push.ensures.items

pub returns : goal.returns
returns c =
    let all : c.loop-place.place ≡ c.args.count = omega (arith, c.loop-place-test.false, c.loop-place.auto.place-end) in
    c.loop-place.invariant ∙ ap (numbers_from c.args.first) all
