use Rattle.std.proofs.Common.{◌≡◌, ℕ, List, ◌++◌, All, length}
use Rattle.std.specs.List.{flat_map}
use Rattle.meta_table_reader.proofs.ItemsRead.{AreRead}
use Rattle.meta_table_reader.proofs.item.items.Given as goal

-- what is read, and what is left to read
abbrev pub invariant-loop : goal.invariant-loop
invariant-loop g l =
    (items : List g.row.T.Denot) (rest : List ℕ) → All g.T.Item.IsShown items → l.count ≡ length items
    → l.initial.cursor ≡ flat_map g.T.Item.text items ++ rest
    → AreRead g.T.Item.text items rest l.counter l.items.items l.cursor
