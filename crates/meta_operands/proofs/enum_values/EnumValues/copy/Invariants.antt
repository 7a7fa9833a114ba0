use Rattle.std.proofs.Common.{◌≡◌, ◌++◌}
use Rattle.meta_operands.proofs.enum_values.EnumValues.copy.Given as goal

-- what is copied, and then what is left, are the values
abbrev pub invariant-loop-name : goal.invariant-loop-name
invariant-loop-name l = l.variants.entries ++ l.name-iterator ≡ l.self
