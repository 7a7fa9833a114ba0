-- Looking a number up in an open addressed table: the probe, and where it ends.
--     slot_at n start k          slot k of the probe
--     VisitsEach n               a probe of n slots meets each slot once
--     IsLookup says slots ..     what a lookup finds, and how far it looks
use Rattle.std.specs.Prelude.{ℕ, ◌≡◌, ◌+◌, ◌*◌, ◌/◌, ◌%◌, ◌<◌, Bool, true, false, List, length, slice_get, Option, None, Some}

-- slot k of the probe from `start`, in a table of n slots: after slot k it goes on k + 1 slots further, round the end
abbrev pub slot_at : ℕ → ℕ → ℕ → ℕ
slot_at n start k = (start + k * (k + 1) / 2) % n

-- wherever a probe starts, its first n slots are all n slots of the table, each once
pub record VisitsEach (n : ℕ) : Type 0 where
  pub slots : (start k : ℕ) → slot_at n start k < n
  pub all : (start slot : ℕ) → slot < n → (k : ℕ) × (k < n) × (slot_at n start k ≡ slot)
  pub once : (start j k : ℕ) → j < n → k < n → slot_at n start j ≡ slot_at n start k → j ≡ k

-- the slot is there, and it is vacant
abbrev pub IsVacant : {X : Type 0} → List (Option X) → ℕ → Type 0
IsVacant slots slot = slice_get slots slot ≡ Some None

-- the slot is there, and it holds x
abbrev pub SlotHolds : {X : Type 0} → List (Option X) → ℕ → X → Type 0
SlotHolds slots slot x = slice_get slots slot ≡ Some (Some x)

-- the slot holds a number that the test refuses, so that a look-up goes on to the next slot
pub record IsPassed (says : ℕ → Bool → Type 0) (slots : List (Option ℕ)) (slot : ℕ) : Type 0 where
  pub number : ℕ
  pub taken : SlotHolds slots slot number
  pub refused : says number false

-- the slot ends a lookup: it is vacant and nothing is found, or it holds what is found, which passes the test
abbrev pub Ends : (ℕ → Bool → Type 0) → List (Option ℕ) → ℕ → Option ℕ → Type 0
Ends says slots slot None = IsVacant slots slot
Ends says slots slot (Some number) = SlotHolds slots slot number × says number true

-- A lookup from `start` ends at slot `last` of its probe, the first that is vacant or whose number passes the test. It looked
-- at `last + 1` slots, each another one.
pub record IsLookup (says : ℕ → Bool → Type 0) (slots : List (Option ℕ)) (start : ℕ) (found : Option ℕ) (last : ℕ) : Type 0 where
  pub inside : last < length slots
  pub passed : (k : ℕ) → k < last → IsPassed says slots (slot_at (length slots) start k)
  pub ends : Ends says slots (slot_at (length slots) start last) found

-- the slot is there, and it holds something
abbrev pub IsTaken : {X : Type 0} → List (Option X) → ℕ → Type 0
IsTaken {X} slots slot = (x : X) × SlotHolds slots slot x
