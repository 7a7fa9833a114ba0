use Rattle.std.proofs.Common.{◌≡◌, take}
use Rattle.meta_inst.specs.FormatMatch.{is_value_operand}
use Rattle.meta_inst.specs.Content.{places_where}
use Rattle.meta_inst.proofs.content.value_places.Given as goal

-- the places of the values so far
abbrev pub invariant-loop-place : goal.invariant-loop-place
invariant-loop-place l = l.places.items ≡ places_where is_value_operand (take l.place l.operands)
