use Rattle.std.proofs.Common.{take}
use Rattle.meta_shared.specs.RootRows.{AreAdded}
use Rattle.meta_shared.proofs.root_rows.add_roots.Given as goal

-- the roots of the rows so far, with their numbers
abbrev pub invariant-loop-row : goal.invariant-loop-row
invariant-loop-row l = AreAdded (take l.row-index l.rows) l.vars l.found.items
