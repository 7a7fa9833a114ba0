use Rattle.std.proofs.Common.{◌≡◌, map, ◌++◌}
use Rattle.meta_lines.specs.Words.{pieces_of}
use Rattle.meta_query_lines.specs.Request.{sought_name, AreSought}
use Rattle.meta_query_lines.proofs.sought.read_sought.Given as goal

-- each so far is a type or any type; their names come before the names that are left
abbrev pub invariant-loop-name : goal.invariant-loop-name
invariant-loop-name l = record {
  known : AreSought l.sought.items;
  named : map sought_name l.sought.items ++ l.name-iterator ≡ pieces_of 44 l.fn.word;
}
