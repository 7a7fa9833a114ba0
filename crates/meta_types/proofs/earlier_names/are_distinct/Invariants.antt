use Rattle.meta_types.proofs.NamesSoFar.{NamesAreKept}
use Rattle.meta_types.proofs.earlier_names.are_distinct.Given as goal

abbrev pub invariant-loop-name : goal.invariant-loop-name
invariant-loop-name l = NamesAreKept l.names l.name-index l.earlier
