use Rattle.std.proofs.Common.{◌≡◌, ◌≤◌, drop}
use Rattle.meta_file_declare.specs.Formats.{marked_from}
use Rattle.meta_file_declare.proofs.formats.marked_in.Given as goal

-- what is left decides, after this count of values
abbrev pub invariant-loop-slot : goal.invariant-loop-slot
invariant-loop-slot l = record {
  rest : marked_from l.values (drop l.slot-index l.slots) ≡ marked_from 0 l.slots;
  few : l.values ≤ l.slot-index;
}
