-- What the words of a program ask of the program itself.
--     AsksFor words asked      by `help` alone, or by the first word that asks for something
use Rattle.std.specs.Prelude.{◌≡◌, ◌≢◌, ℕ, ◌⊎◌, List, [], ◌∷◌, codes, slice_get, Some}
use Rattle.meta_lists.specs.First.{IsFirst}
use Rattle.meta_command_line.specs.declared.asked.Asked.{Asked}
use Rattle.meta_command_line.specs.declared.asked.Asked.TheVariants.{Help, Version, Work}

-- a word that asks for the help wherever it stands
abbrev pub IsHelp : List ℕ → Type 0
IsHelp word = (word ≡ codes "--help") ⊎ (word ≡ codes "-h")

-- a word that asks for the version wherever it stands
abbrev pub IsVersion : List ℕ → Type 0
IsVersion word = (word ≡ codes "--version") ⊎ (word ≡ codes "-V")

-- P holds of the word at this place
abbrev pub StandsAt : (List ℕ → Type 0) → List (List ℕ) → ℕ → Type 0
StandsAt P words k = (word : List ℕ) × (slice_get words k ≡ Some word) × P word

-- the word at this place asks for the help or the version
abbrev pub AsksAt : List (List ℕ) → ℕ → Type 0
AsksAt words k = StandsAt (λ word. IsHelp word ⊎ IsVersion word) words k

-- P holds of the first word that asks for something
abbrev pub FirstAsks : (List ℕ → Type 0) → List (List ℕ) → Type 0
FirstAsks P words = (k : ℕ) × IsFirst (AsksAt words) k × StandsAt P words k

-- what the words ask for, wherever the word stands that asks
abbrev pub AsksAmong : List (List ℕ) → Asked → Type 0
AsksAmong words Help = FirstAsks IsHelp words
AsksAmong words Version = FirstAsks IsVersion words
AsksAmong words Work = (k : ℕ) → AsksAt words k → ⊥

-- what the words ask for: `help` alone asks for the help too
abbrev pub AsksFor : List (List ℕ) → Asked → Type 0
AsksFor words Help = (words ≡ codes "help" ∷ []) ⊎ FirstAsks IsHelp words
AsksFor words Version = FirstAsks IsVersion words
AsksFor words Work = (words ≢ codes "help" ∷ []) × ((k : ℕ) → AsksAt words k → ⊥)
