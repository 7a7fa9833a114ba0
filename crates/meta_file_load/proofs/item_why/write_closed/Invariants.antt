use Rattle.std.proofs.Common.{◌≡◌, ◌++◌, drop}
use Rattle.meta_file_load.specs.ItemWhy.{closed}
use Rattle.meta_file_load.proofs.item_why.write_closed.Given as goal

-- what is added, and what is left to add
abbrev pub invariant-loop-function : goal.invariant-loop-function
invariant-loop-function l = l.out.items ++ closed (drop l._function-index l.functions) ≡ l.fn.out.items ++ closed l.functions
