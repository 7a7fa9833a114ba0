use Rattle.std.proofs.Common.{◌≡◌, ◌++◌, map, take}
use Rattle.meta_inst.specs.FormatMatch.{field_names, format_field_name}
use Rattle.meta_inst.proofs.format_match.are_fields.Given as goal

-- the fields so far hold the operands so far
abbrev pub invariant-loop-operand : goal.invariant-loop-operand
invariant-loop-operand l = map format_field_name l.fields ≡ field_names (take l.operand-index l.operands) ++ map format_field_name l.left
