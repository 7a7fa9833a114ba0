use Rattle.std.proofs.Common.{◌≡◌, ◌≤◌, ◌+◌, drop, length}
use Rattle.meta_file_declare.specs.Places.{places_from, places_of}
use Rattle.meta_file_declare.specs.Sorts.{is_of}
use Rattle.meta_file_declare.proofs.places.count_of.Given as goal

-- the count so far, and the places that are left
abbrev pub invariant-loop-item : goal.invariant-loop-item
invariant-loop-item l = record {
  few : l.count ≤ l.item-index;
  left : l.count + length (places_from (is_of l.sort) l.item-index (drop l.item-index l.items)) ≡ length (places_of (is_of l.sort) l.items);
}
