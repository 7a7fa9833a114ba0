-- Tables of names: how many slots there are, and where each item stands.
use Rattle.std.specs.Prelude.{ℕ, ◌≡◌, ◌+◌, ◌/◌, ◌<◌, ◌≤◌, List, length, slice_get, Option, Some}
use Rattle.std.specs.Int.{IsPowerOfTwo}
use Rattle.meta_unique.specs.Probing.{slot_at, SlotHolds}

-- the least power of two above the count of the items and a fifth of it
pub record IsTableSize (count size : ℕ) : Type 0 where
  pub power : IsPowerOfTwo size
  pub above : count + count / 5 < size
  pub least : (other : ℕ) → IsPowerOfTwo other → count + count / 5 < other → size ≤ other

-- the slot is the first of its probe that isn't taken
pub record IsFirstFree (size start : ℕ) (IsTaken : ℕ → Type 0) (slot : ℕ) : Type 0 where
  pub step : ℕ
  pub here : slot_at size start step ≡ slot
  pub free : IsTaken slot → ⊥
  pub passed : (k : ℕ) → k < step → IsTaken (slot_at size start k)

-- one of the items before item i stands in the slot
abbrev pub IsTakenBefore : (ℕ → ℕ) → ℕ → ℕ → Type 0
IsTakenBefore place i slot = (j : ℕ) × (j < i) × (place j ≡ slot)

-- Item i stands in the slot `place i`, which is the first of its probe that no item before it has, and no slot holds anything
-- else. `hashes x h` says that a probe for x starts at h.
pub record IsFilled {X : Type 0} (hashes : X → ℕ → Type 0) (items : List X) (slots : List (Option X)) : Type 0 where
  pub place : ℕ → ℕ
  pub holds : (i : ℕ) (x : X) → slice_get items i ≡ Some x → SlotHolds slots (place i) x
  pub only : (slot : ℕ) (x : X) → SlotHolds slots slot x → (i : ℕ) × (i < length items) × (place i ≡ slot)
  pub first : (i : ℕ) (x : X) → slice_get items i ≡ Some x → (h : ℕ) × hashes x h
      × IsFirstFree (length slots) h (IsTakenBefore place i) (place i)

-- the slots of the items: as many as the size says, filled in the order of the items
pub record IsSlots {X : Type 0} (hashes : X → ℕ → Type 0) (items : List X) (slots : List (Option X)) : Type 0 where
  pub size : IsTableSize (length items) (length slots)
  pub filled : IsFilled hashes items slots
