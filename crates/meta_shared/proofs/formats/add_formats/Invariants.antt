use Rattle.std.proofs.Common.{◌≡◌, ◌++◌, length, take}
use Rattle.meta_shared.specs.Formats.{formats_of, AreNumbered}
use Rattle.meta_shared.proofs.formats.add_formats.Given as goal

-- the formats of the rows so far, with their numbers
abbrev pub invariant-loop-row : goal.invariant-loop-row
invariant-loop-row l = record {
  formats : l.table ≡ l.initial.table ++ formats_of l.imm l.entities (take l.row-index l.rows);
  numbers : AreNumbered (length l.initial.table) l.row-index l.ids.items;
}
