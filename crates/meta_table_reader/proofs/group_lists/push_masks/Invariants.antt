use Rattle.std.proofs.Common.{◌≡◌, ℕ, List, ◌++◌, All, length, take, drop}
use Rattle.std.specs.List.{flat_map}
use Rattle.meta_table_text.specs.GroupItems.{pair_text}
use Rattle.meta_table_reader.specs.ShownGroup.{IsByte}
use Rattle.meta_table_reader.proofs.group_lists.push_masks.Given as goal

-- what is added, and what is left to read
abbrev pub invariant-loop : goal.invariant-loop
invariant-loop l =
    (ms : List ℕ) (rest : List ℕ) → All IsByte ms → l.count ≡ length ms → l.initial.cursor ≡ flat_map pair_text ms ++ rest
    → (l.masks.items ≡ l.initial.masks.items ++ take l.counter ms) × (l.cursor ≡ flat_map pair_text (drop l.counter ms) ++ rest)
