use Rattle.std.proofs.Common.{◌+◌}
use Rattle.meta_explain.specs.Listed.{AreListed, IsLess}
use Rattle.meta_explain.proofs.Listing.{BeforeAnd}
use Rattle.meta_query_lines.specs.NamesOf.{IsListedBy}
use Rattle.meta_query_lines.proofs.naming.opcodes_listed.Given as goal

-- the opcodes so far that are listed
abbrev pub invariant-loop-before : goal.invariant-loop-before
invariant-loop-before l = AreListed IsLess (BeforeAnd (IsListedBy l.tables l.names) (l.before + 1)) l.opcodes.items
