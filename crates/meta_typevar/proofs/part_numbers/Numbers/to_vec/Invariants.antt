use Rattle.std.proofs.Common.{◌≡◌, take}
use Rattle.std.specs.List.{filter}
use Rattle.meta_typevar.specs.MaskSets.{holds}
use Rattle.meta_typevar.proofs.part_numbers.Numbers.to_vec.Given as goal

-- what is held before this place was taken
abbrev pub invariant-loop-n : goal.invariant-loop-n
invariant-loop-n l = l.numbers.items ≡ filter (holds l.self-inside.mask) (take l.n-index l.n-items)
