-- Marks for the numbers that stand in a list.
use Rattle.std.specs.Prelude.{◌≡◌, ℕ, ◌<◌, ◌==◌, Bool, false, List, slice_index_or}
use Rattle.std.specs.List.{list_any}

-- whether the number stands in the list
abbrev pub stands_in : ℕ → List ℕ → Bool
stands_in n numbers = list_any (λ m. m == n) numbers

-- of the numbers below 256 exactly those are marked that stand in the list
abbrev pub MarksNumbers : List Bool → List ℕ → Type 0
MarksNumbers marks numbers = (n : ℕ) → n < 256 → slice_index_or marks n false ≡ stands_in n numbers
