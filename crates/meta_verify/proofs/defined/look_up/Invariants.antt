use Rattle.std.proofs.Common.{◌≡◌, map, take, drop, All}
use Rattle.meta_types.specs.TypeNumber.{type_with, IsTypeNumber}
use Rattle.meta_verify.specs.Environment.{first_undefined, HaveTypes}
use Rattle.meta_verify.specs.Defined.{environment_of}
use Rattle.meta_verify.proofs.defined.look_up.Given as goal

-- the values so far are defined, and have the types with the numbers
abbrev pub invariant-loop-value : goal.invariant-loop-value
invariant-loop-value l = record {
  left : first_undefined (environment_of l.types) (drop l.value-index l.values) ≡ first_undefined (environment_of l.types) l.values;
  types : HaveTypes (environment_of l.types) (take l.value-index l.values) (map type_with l.numbers.items);
  known : All IsTypeNumber l.numbers.items;
}
