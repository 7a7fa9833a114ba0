use Rattle.std.proofs.Common.{arith, map, ap, ◌∙◌}
use Rattle.std.specs.Option.{option_copied}
use Rattle.std.proofs.lemmas.Grind.{common_steps}
use Rattle.std.proofs.lemmas.List.{take_all}
use Rattle.meta_unique.proofs.names.pointed_at.Goals as goal

pub loop-slot-init : goal.loop-slot-init
loop-slot-init c = c.in_ok-copies.ensures.items

pub loop-slot-preserved : goal.loop-slot-preserved
loop-slot-preserved c = grind (arith, common_steps)

pub returns : goal.returns
returns c = c.loop-slot.invariant ∙ ap (map option_copied) (take_all c.loop-slot.slot-index c.args.slots.now c.loop-slot-test.false)
