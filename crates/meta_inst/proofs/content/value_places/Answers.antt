use Rattle.std.proofs.Common.{arith, ap, ◌∙◌}
use Rattle.std.proofs.lemmas.List.{take_all}
use Rattle.meta_inst.specs.Content.{places_where}
use Rattle.meta_inst.specs.FormatMatch.{is_value_operand}
use Rattle.meta_inst.proofs.Placing.{more_places}
use Rattle.meta_inst.proofs.content.value_places.Goals as goal

pub loop-place-init : goal.loop-place-init
loop-place-init c = c.in_ok-places.ensures.items

pub loop-place-preserved : goal.loop-place-preserved
loop-place-preserved c = more_places is_value_operand c.args.operands.now c.loop-place.place _ _ _ _
    (omega (arith, c.loop-place-test.true)) c.index-operands-place.is c.loop-place.invariant c.is_value.ensures c.in_ok-push_place.ensures

pub returns : goal.returns
returns c = c.loop-place.invariant
    ∙ ap (places_where is_value_operand) (take_all c.loop-place.place c.args.operands.now c.loop-place-test.false)
