use Rattle.std.proofs.Common.{map}
use Rattle.std.specs.Fn.{FnReturnsAt}
use Rattle.std.specs.Option.{option_copied}
use Rattle.meta_unique.proofs.Filling.{Filling}
use Rattle.meta_unique.proofs.constant_hash.generate_table.Given as goal

abbrev pub invariant-loop-item : goal.invariant-loop-item
invariant-loop-item g l = Filling (FnReturnsAt g.H.Fn l.hash_function) l.items l.item-index (map option_copied l.table.items)
