use Rattle.std.proofs.Common.{◌≡◌, map, take}
use Rattle.meta_operands.specs.Structure.{names_of_field}
use Rattle.meta_operands.proofs.structure.FieldNames.of.Given as goal

-- the names are those of the fields so far
abbrev pub invariant-loop-field : goal.invariant-loop-field
invariant-loop-field l = l.names.items ≡ map names_of_field (take l.field-index l.fields)
