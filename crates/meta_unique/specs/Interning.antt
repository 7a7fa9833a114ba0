-- Interning: a list of entries, no two of which are equal by `eq`.
--     IsIndexOf eq entries x i       the entry with the index i equals x
--     AreDifferent eq entries        no two entries are equal
use Rattle.std.specs.Prelude.{ℕ, ◌≡◌, Bool, true, List, slice_get, map, Option, Some}
use Rattle.std.specs.Borrow.{Bor}

-- what the references point to
abbrev pub pointed_to : {X : Type 0} → List (Bor X) → List X
pointed_to references = map (λ r. r.now) references

-- x equals the entry with the index i
pub record IsIndexOf {X : Type 0} (eq : X → X → Bool) (entries : List X) (x : X) (i : ℕ) : Type 0 where
  pub entry : X
  pub there : slice_get entries i ≡ Some entry
  pub equal : eq x entry ≡ true

-- x equals no entry
abbrev pub IsNew : {X : Type 0} → (X → X → Bool) → List X → X → Type 0
IsNew eq entries x = (i : ℕ) → IsIndexOf eq entries x i → ⊥

-- no two entries are equal
abbrev pub AreDifferent : {X : Type 0} → (X → X → Bool) → List X → Type 0
AreDifferent {X} eq entries = (i j : ℕ) (x y : X) → slice_get entries i ≡ Some x → slice_get entries j ≡ Some y → eq x y ≡ true → i ≡ j

-- no two entries are equal, and a look-up gives each value the index of the entry that equals it, and nothing if no entry does
pub record IsIndexed {X : Type 0} (eq : X → X → Bool) (entries : List X) (look_up : Bor X → Option ℕ) : Type 0 where
  pub different : AreDifferent eq entries
  pub sound : (r : Bor X) (i : ℕ) → look_up r ≡ Some i → IsIndexOf eq entries r.now i
  pub complete : (r : Bor X) (i : ℕ) → IsIndexOf eq entries r.now i → look_up r ≡ Some i
