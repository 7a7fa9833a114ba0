use Rattle.meta_types.proofs.NamesSoFar.{NamesAreKept}
use Rattle.meta_setting_tables.specs.GroupTables.{names_in}
use Rattle.meta_setting_tables.proofs.names.have_distinct_names.Given as goal

abbrev pub invariant-loop-entry : goal.invariant-loop-entry
invariant-loop-entry l = NamesAreKept (names_in l.entries) l.entry-index l.earlier
