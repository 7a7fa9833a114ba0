use Rattle.std.proofs.Common.{◌≡◌, ℕ, List, All, take, drop}
use Rattle.meta_table_text.specs.GroupItems.{bytes_text}
use Rattle.meta_table_reader.specs.ShownGroup.{IsByte}
use Rattle.meta_table_reader.proofs.groups.bytes.Given as goal

-- what is read, and what is left to read
abbrev pub invariant-loop : goal.invariant-loop
invariant-loop l = (bs : List ℕ) → All IsByte bs → l.shown ≡ bytes_text bs
    → (l.bytes.items ≡ take l.counter bs) × (l.cursor ≡ bytes_text (drop l.counter bs))
