-- Slots of names, which hold the numbers of the names.
--     AreNameSlots first names slots       the slots of names that are numbered from `first` on
--     NameAnswers first names name ..      what a lookup of a name asks of the number in a slot
--     IsNameLookup first names slots ..    what a lookup of a name finds, and how far it looks
use Rattle.std.specs.Prelude.{ℕ, zero, suc, ◌≡◌, ◌↔◌, ◌+◌, Bool, true, List, [], ◌∷◌, length, slice_get, Option, Some}
use Rattle.meta_unique.specs.SimpleHash.{simple_hash_of}
use Rattle.meta_unique.specs.Probing.{IsLookup}
use Rattle.meta_unique.specs.Slots.{IsSlots}

-- the number is that of this name
pub record IsNumberOfName (first : ℕ) (names : List (List ℕ)) (name : List ℕ) (number : ℕ) : Type 0 where
  pub place : ℕ
  pub number_is : number ≡ first + place
  pub there : slice_get names place ≡ Some name

-- the name with this number hashes to h
pub record HashesTo (first : ℕ) (names : List (List ℕ)) (number h : ℕ) : Type 0 where
  pub name : List ℕ
  pub is_number : IsNumberOfName first names name number
  pub hash : h ≡ simple_hash_of name

-- the numbers from `first` on, as many as the second argument
abbrev pub numbers_from : ℕ → ℕ → List ℕ
numbers_from first zero = []
numbers_from first (suc count) = first ∷ numbers_from (first + 1) count

-- the slots hold the numbers of the names, each at the first vacant slot of the probe from its name's hash, in order
abbrev pub AreNameSlots : ℕ → List (List ℕ) → List (Option ℕ) → Type 0
AreNameSlots first names slots = IsSlots (HashesTo first names) (numbers_from first (length names)) slots

-- the answer to whether the number is that of the name
abbrev pub NameAnswers : ℕ → List (List ℕ) → List ℕ → ℕ → Bool → Type 0
NameAnswers first names name number answer = (answer ≡ true) ↔ IsNumberOfName first names name number

-- a lookup of the name, from its hash on, finds this, and it ends at slot `last` of its probe
abbrev pub IsNameLookup : ℕ → List (List ℕ) → List (Option ℕ) → List ℕ → Option ℕ → ℕ → Type 0
IsNameLookup first names slots name found last = IsLookup (NameAnswers first names name) slots (simple_hash_of name) found last
