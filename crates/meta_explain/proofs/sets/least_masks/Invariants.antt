use Rattle.std.proofs.Common.{take}
use Rattle.meta_typevar.specs.Masks.{AreMasksOf}
use Rattle.meta_explain.specs.Sets.{least_set}
use Rattle.meta_explain.proofs.sets.least_masks.Given as goal

-- the masks are those of the least set that has the types so far
abbrev pub invariant-loop-number : goal.invariant-loop-number
invariant-loop-number l = AreMasksOf (least_set (take l.number-index l.numbers)) l.masks
