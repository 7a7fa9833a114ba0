use Rattle.std.proofs.Common.{◌≡◌, take}
use Rattle.meta_operands.specs.Operand.{is_immediate_or_entityref_operand}
use Rattle.meta_inst.specs.Content.{places_where}
use Rattle.meta_inst.proofs.content.immediate_places.Given as goal

-- the places of the immediates and entity references so far
abbrev pub invariant-loop-place : goal.invariant-loop-place
invariant-loop-place l = l.places.items ≡ places_where is_immediate_or_entityref_operand (take l.place l.operands)
