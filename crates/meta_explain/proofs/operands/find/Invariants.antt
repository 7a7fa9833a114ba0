use Rattle.std.proofs.Common.{◌+◌, []}
use Rattle.meta_explain.specs.Found.{Finds}
use Rattle.meta_explain.specs.Search.{Adds}
use Rattle.meta_explain.proofs.Adding.{OpcodeBefore}
use Rattle.meta_explain.proofs.operands.find.Given as goal

-- what is found of the opcodes so far is added
abbrev pub invariant-loop-before : goal.invariant-loop-before
invariant-loop-before l = Adds (OpcodeBefore (Finds l.tables l.results l.values) (l.before + 1)) [] l.found.items
