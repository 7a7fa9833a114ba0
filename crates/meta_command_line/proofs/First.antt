-- The first word that asks for something.
use Rattle.std.proofs.Common.{◌≡◌, ℕ, ◌+◌, ◌<◌, ◌≤◌, ◌⊎◌, ⊎_elim, List, length, get_or, slice_get, Some, refl, subst, sym, ◌∙◌, arith}
use Rattle.std.proofs.lemmas.Bool.{cases_lt}
use Rattle.std.proofs.lemmas.Option.{same_Some, slice_get_read, slice_get_within}
use Rattle.meta_command_line.specs.Asked.{IsHelp, IsVersion, AsksAt, FirstAsks}

-- what stands at a place is the word that was read there
there : (words : List (List ℕ)) (k : ℕ) (word other : List ℕ) → k < length words → word ≡ get_or words k word
    → slice_get words k ≡ Some other → other ≡ word
there words k word other within is at = same_Some _ _ (sym at ∙ slice_get_read words (length words) k word refl within is)

-- one word more asks for nothing
pub none_more : (words : List (List ℕ)) (k : ℕ) (word : List ℕ) → k < length words → word ≡ get_or words k word → (IsHelp word → ⊥)
    → (IsVersion word → ⊥) → ((j : ℕ) → j < k → AsksAt words j → ⊥) → (j : ℕ) → j < k + 1 → AsksAt words j → ⊥
none_more words k word within is no_help no_version none j below asks = ⊎_elim
    (λ l. none j l asks)
    (λ l.
    let same : j ≡ k = omega (arith, l, below) in
    let at : slice_get words k ≡ Some asks.0 = subst (λ n. slice_get words n ≡ Some asks.0) same asks.1 in
    let is_word : asks.0 ≡ word = there words k word asks.0 within is at in
    ⊎_elim (λ h. no_help (subst IsHelp is_word h)) (λ v. no_version (subst IsVersion is_word v)) asks.2)
    (cases_lt j k)

-- the word at a place after words that ask for nothing decides
pub first_is : (P : List ℕ → Type 0) (words : List (List ℕ)) (k : ℕ) (word : List ℕ) → k < length words → word ≡ get_or words k word
    → P word → (IsHelp word ⊎ IsVersion word) → ((j : ℕ) → j < k → AsksAt words j → ⊥) → FirstAsks P words
first_is P words k word within is holds asks none =
    let at : slice_get words k ≡ Some word = slice_get_read words (length words) k word refl within is in
    (k, record { holds = (word, at, asks); none_before = none }, (word, at, holds))

-- after the last word there is no word that asks
pub none_at_all : (words : List (List ℕ)) (k : ℕ) → length words ≤ k → ((j : ℕ) → j < k → AsksAt words j → ⊥) → (j : ℕ) → AsksAt words j → ⊥
none_at_all words k past none j asks = none j (let within = slice_get_within words j asks.0 asks.1 in omega arith) asks
