use Rattle.std.proofs.Common.{◌≡◌, ◌++◌, List}
use Rattle.std.specs.Slice.Iter.{iter_rest}
use Rattle.meta_typevar.specs.TypeSetParts.{TypeSetParts}
use Rattle.meta_unique.specs.Interning.{pointed_to}
use Rattle.meta_build.specs.Needed.{StandForSets}
use Rattle.meta_gen.proofs.masks.masks_of.Given as goal

-- the masks of the sets in front of those that are left
abbrev pub invariant-loop-set : goal.invariant-loop-set
invariant-loop-set l = (front : List TypeSetParts) × (StandForSets l.masks.items front)
    × (l.type_sets ≡ front ++ pointed_to (iter_rest l.set-iterator))
