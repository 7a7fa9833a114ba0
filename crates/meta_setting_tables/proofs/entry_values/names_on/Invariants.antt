use Rattle.std.proofs.Common.{◌≡◌, ◌++◌, map, drop}
use Rattle.meta_setting_tables.specs.EntryValues.{names_on}
use Rattle.meta_setting_tables.proofs.entry_values.names_on.Given as goal

-- the names so far, and then those among what is left
abbrev pub invariant-loop-entry : goal.invariant-loop-entry
invariant-loop-entry l = map (λ name. name.now) l.names.items ++ names_on (drop l.entry-index l.entries) l.bytes
    ≡ names_on l.entries l.bytes
