use Rattle.std.proofs.Common.{◌≡◌, ◌≤◌, ◌+◌, ◌*◌, ◌^◌, drop}
use Rattle.meta_program.specs.Counts.{laid_entries_in}
use Rattle.meta_program.proofs.written.entry_count.Given as goal

-- the entries so far, and those of the groups that are left; a group has fewer than 2 ^ 64
abbrev pub invariant-loop-group : goal.invariant-loop-group
invariant-loop-group l = record {
  counted : l.count + laid_entries_in (drop l.group-index l.groups) ≡ laid_entries_in l.groups;
  few : l.count ≤ l.group-index * 2 ^ 64;
}
