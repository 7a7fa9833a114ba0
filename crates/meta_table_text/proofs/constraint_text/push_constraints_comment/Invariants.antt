use denote.Shadow.{shadow}
use denote.Text.{Utf8}
use Rattle.std.proofs.Common.{◌≡◌, ◌++◌, [], map, drop, string_bytes}
use Rattle.meta_gen.specs.Constraint.{number_constraint_of}
use Rattle.meta_table_text.specs.TypeSetText.{parted_after}
use Rattle.meta_table_text.specs.ConstraintText.{quoted}
use Rattle.meta_table_text.proofs.constraint_text.push_constraints_comment.Given as goal

abbrev pub invariant-loop-constraint : goal.invariant-loop-constraint
invariant-loop-constraint l = shadow (Utf8 l.before)
    × (string_bytes l.out ++ parted_after l.before (map quoted (map number_constraint_of (drop l.constraint-index l.constraints)))
    ≡ string_bytes l.initial.out ++ parted_after [] (map quoted (map number_constraint_of l.constraints)))
