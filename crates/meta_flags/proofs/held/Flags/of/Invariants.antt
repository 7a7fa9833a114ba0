use Rattle.std.proofs.Common.{◌≡◌, ◌++◌, map, drop}
use Rattle.meta_flags.specs.Held.{value_of}
use Rattle.meta_flags.proofs.Places.{defaults}
use Rattle.meta_flags.proofs.held.Flags.of.Given as goal

-- the defaults so far, and then those of what is left
abbrev pub invariant-loop-index : goal.invariant-loop-index
invariant-loop-index l = map value_of l.values.items ++ defaults l.group (drop l.index l.group.descriptors)
    ≡ defaults l.group l.group.descriptors
