-- A table that keeps lists in one piece each, which may overlap. Elements are compared by `eq`, what `==` answers.
--     stands_at eq table list place     the list stands in the table from the place on
--     added eq table list               the table after the list is added
--     added_at eq table list            where the list then stands
use Rattle.std.specs.Prelude.{ℕ, zero, suc, ◌≡◌, ◌-◌, ◌≤◌, Bool, true, nat_lt, if◌then◌else◌, List, [], ◌∷◌, ◌++◌, length, take, drop}
use Rattle.std.specs.List.{starts_with, ends_with}
use Rattle.std.specs.Cmp.Lexicographic.{pointwise}

-- the least number below n that passes the test, or n where none does
unfoldable pub least : (ℕ → Bool) → ℕ → ℕ
least test zero = 0
least test (suc n) = if test 0 then 0 else suc (least (λ k. test (suc k)) n)

-- the greatest number up to n that passes the test, or 0 where none does
unfoldable pub greatest : (ℕ → Bool) → ℕ → ℕ
greatest test zero = 0
greatest test (suc n) = if test (suc n) then suc n else greatest test n

module _ {X : Type 0} (eq : X → X → Bool) where
  -- the lists are as long, and equal element by element
  abbrev pub AreAlike : List X → List X → Type 0
  AreAlike xs ys = pointwise eq xs ys ≡ true

  -- whether the list stands in the table, in one piece, from the place on
  abbrev pub stands_at : List X → List X → ℕ → Bool
  stands_at table list place = starts_with eq (drop place table) list

  -- whether the last n elements of the table are the first n of the list
  abbrev pub is_shared : List X → List X → ℕ → Bool
  is_shared table list n = ends_with eq table (take n list)

  -- the first place where the list stands in the table, or the table's length where it doesn't stand there
  abbrev pub first_place : List X → List X → ℕ
  first_place table list = least (stands_at table list) (length table)

  -- how long the longest tail of the table is that is a proper prefix of the list
  abbrev pub shared : List X → List X → ℕ
  shared table list = greatest (is_shared table list) (length list - 1)

  -- the table after the list is added: unchanged where the list is empty or stands in it, and else with what follows the
  -- longest tail of the table that is a proper prefix of the list
  abbrev pub added : List X → List X → List X
  added table [] = table
  added table (x ∷ xs) = if nat_lt (first_place table (x ∷ xs)) (length table) then table else table
      ++ drop (shared table (x ∷ xs)) (x ∷ xs)

  -- where the list then stands: at 0 where it is empty, at its first place where it stood in the table, and else where the
  -- shared tail begins
  abbrev pub added_at : List X → List X → ℕ
  added_at table [] = 0
  added_at table (x ∷ xs) = if nat_lt (first_place table (x ∷ xs)) (length table) then first_place table
      (x ∷ xs) else length table - shared table (x ∷ xs)

  -- no list that begins with the old table and holds the added list in one piece is shorter than the new table
  abbrev pub IsShortest : List X → List X → List X → Type 0
  IsShortest old list new = (other : List X) (place : ℕ) → starts_with eq other old ≡ true
      → stands_at other list place ≡ true → length new ≤ length other
