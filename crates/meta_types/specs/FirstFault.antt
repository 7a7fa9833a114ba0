-- Faults are looked for in one order, and the first counts.
--     IsFirstFound key Has e   e is the first fault
--     HasNoFault Has           there is no fault
--     HasNoneBefore key Has k  there is no fault that is looked for before k
use Rattle.std.specs.Prelude.{◌≡◌, ◌<◌, ◌⊎◌, ℕ}
use Rattle.meta_types.specs.declared.fault.DefinitionError.{DefinitionError}

-- where a rule looks: the part of what is declared, the place in that part, and the rule, all by their numbers, from 0
pub record Key : Type 0 where
  pub part : ℕ
  pub place : ℕ
  pub rule : ℕ

-- the key with these numbers
abbrev pub key_at : ℕ → ℕ → ℕ → Key
key_at part place rule = record { part = part; place = place; rule = rule }

-- k is looked at before m: part by part, in a part place by place, and at a place rule by rule
abbrev pub IsEarlier : Key → Key → Type 0
IsEarlier k m = (k.part < m.part) ⊎ ((k.part ≡ m.part) × ((k.place < m.place) ⊎ ((k.place ≡ m.place) × (k.rule < m.rule))))

-- Faults are looked for at positions, which are in the order of their keys. Has p e says that the rule of the position p is
-- broken there, and that the fault e tells of it.

-- no fault is shown at a position before the key
abbrev pub HasNoneBefore : {P : Type 0} → (P → Key) → (P → DefinitionError → Type 0) → Key → Type 0
HasNoneBefore {P} key Has k = (p : P) (e : DefinitionError) → IsEarlier (key p) k → Has p e → ⊥

-- e is the first fault: it is shown at a position, and none is shown at an earlier one
pub record IsFirstFound {P : Type 0} (key : P → Key) (Has : P → DefinitionError → Type 0) (e : DefinitionError) : Type 0 where
  pub position : P
  pub shows : Has position e
  pub first : HasNoneBefore key Has (key position)

-- no fault is shown
abbrev pub HasNoFault : {P : Type 0} → (P → DefinitionError → Type 0) → Type 0
HasNoFault {P} Has = (p : P) (e : DefinitionError) → Has p e → ⊥
