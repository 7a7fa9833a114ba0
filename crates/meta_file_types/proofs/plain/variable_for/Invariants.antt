use Rattle.std.proofs.Common.{ℕ, drop}
use Rattle.meta_types.specs.ValueTypes.{type_parts_of}
use Rattle.meta_file_types.specs.Held.{StandsFor}
use Rattle.meta_file_types.proofs.plain.variable_for.Given as goal

-- what stands for the type is among those that are left
abbrev pub invariant-loop-root : goal.invariant-loop-root
invariant-loop-root l = (n : ℕ) → StandsFor l.plain (type_parts_of l.value_type) n
    → StandsFor (drop l.root-index l.plain) (type_parts_of l.value_type) n
