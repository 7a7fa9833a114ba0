use Rattle.std.proofs.Common.{◌≡◌, drop}
use Rattle.meta_shared.specs.Kinds.{with_values, pairs_as_values}
use Rattle.meta_shared.proofs.kind_rows.values.Given as goal

-- with the values that are left there are all
abbrev pub invariant-loop-name : goal.invariant-loop-name
invariant-loop-name l = with_values (drop l.name-index l.pairs) l.values ≡ pairs_as_values l.pairs
