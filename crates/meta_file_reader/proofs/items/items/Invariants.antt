use Rattle.std.proofs.Common.{◌≡◌, ◌-◌, length}
use Rattle.meta_file_reader.specs.Reading.{items_at, with_items}
use Rattle.meta_file_reader.proofs.items.items.Given as goal

-- the items so far, and those that are still read, are all
abbrev pub invariant-loop : goal.invariant-loop
invariant-loop l = with_items l.items.items (items_at (length l.tokens - l.counter) l.rest) ≡ items_at (length l.tokens) l.tokens
