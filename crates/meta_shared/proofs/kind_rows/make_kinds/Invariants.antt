use Rattle.std.proofs.Common.{◌≡◌, take, map}
use Rattle.meta_shared.specs.KindRows.{key_of_kind, key_of_row}
use Rattle.meta_shared.proofs.kind_rows.make_kinds.Given as goal

-- the kinds of the rows so far
abbrev pub invariant-loop-row : goal.invariant-loop-row
invariant-loop-row l = map key_of_kind l.kinds.items ≡ map key_of_row (take l.row-index l.rows)
