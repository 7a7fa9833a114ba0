use Rattle.std.proofs.Common.{◌≡◌, take}
use Rattle.meta_settings.specs.GroupDeclaration.{names_of_entries}
use Rattle.meta_settings.specs.GroupFaults.{EntryNameRule, OfEntry}
use Rattle.meta_settings.specs.Searched.{IsGroupCleanBefore}
use Rattle.meta_settings.proofs.fault.entries_fault.Given as goal

-- the names are those so far, and nothing so far breaks a rule
abbrev pub invariant-loop-place : goal.invariant-loop-place
invariant-loop-place l = record {
  kept : l.names ≡ take l.place (names_of_entries l.builder);
  clean : IsGroupCleanBefore l.builder (OfEntry l.place EntryNameRule);
}
