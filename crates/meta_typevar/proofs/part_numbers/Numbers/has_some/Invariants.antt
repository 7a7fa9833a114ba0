use Rattle.std.proofs.Common.{◌≡◌, [], take}
use Rattle.std.specs.List.{filter}
use Rattle.meta_typevar.specs.MaskSets.{holds}
use Rattle.meta_typevar.proofs.part_numbers.Numbers.has_some.Given as goal

-- none before this place is held
abbrev pub invariant-loop-n : goal.invariant-loop-n
invariant-loop-n l = filter (holds l.self-inside.mask) (take l.n-index l.n-items) ≡ []
