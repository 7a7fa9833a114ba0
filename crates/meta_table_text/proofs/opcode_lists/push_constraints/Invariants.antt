use Rattle.std.proofs.Common.{◌≡◌, ◌++◌, map, drop, string_bytes, flat_map}
use Rattle.meta_gen.specs.Constraint.{number_constraint_of}
use Rattle.meta_table_text.specs.ConstraintText.{constraint_line}
use Rattle.meta_table_text.proofs.opcode_lists.push_constraints.Given as goal

-- what is written, and then what is left to write
abbrev pub invariant-loop-constraint : goal.invariant-loop-constraint
invariant-loop-constraint l =
    string_bytes l.lines ++ flat_map constraint_line (map number_constraint_of (drop l.constraint-index l.constraints))
    ≡ flat_map constraint_line (map number_constraint_of l.constraints)
