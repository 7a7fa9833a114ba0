use Rattle.std.proofs.Common.{arith, ap, ◌∙◌}
use Rattle.std.proofs.lemmas.List.{take_all}
use Rattle.meta_operands.specs.Operand.{is_immediate_or_entityref_operand}
use Rattle.meta_inst.specs.Content.{places_where}
use Rattle.meta_inst.proofs.Placing.{more_places}
use Rattle.meta_inst.proofs.content.immediate_places.Goals as goal

pub loop-place-init : goal.loop-place-init
loop-place-init c = c.new-places.ensures.items

pub loop-place-preserved : goal.loop-place-preserved
loop-place-preserved c = more_places is_immediate_or_entityref_operand c.args.operands.now c.loop-place.place _ _ _ _
    (omega (arith, c.loop-place-test.true)) c.index-operands-place.is c.loop-place.invariant
    c.is_immediate_or_entityref.ensures c.in_ok-push_place.ensures

pub returns : goal.returns
returns c = c.loop-place.invariant ∙ ap (places_where is_immediate_or_entityref_operand)
    (take_all c.loop-place.place c.args.operands.now c.loop-place-test.false)
