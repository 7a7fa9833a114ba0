use Rattle.std.proofs.Common.{◌≡◌, map, drop}
use Rattle.std.specs.List.{list_all}
use Rattle.meta_gen.specs.Constraint.{number_constraint_of}
use Rattle.meta_table_text.specs.Fits.{asks_of_no_second}
use Rattle.meta_table_text.proofs.fitting.all_ask_of_no_second.Given as goal

abbrev pub invariant-loop-constraint : goal.invariant-loop-constraint
invariant-loop-constraint l = list_all asks_of_no_second (map number_constraint_of (drop l.constraint-index l.constraints))
    ≡ list_all asks_of_no_second (map number_constraint_of l.constraints)
