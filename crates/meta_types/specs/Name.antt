-- What a name may be.
use Rattle.std.specs.Prelude.{◌≡◌, ℕ, ◌≤◌, ◌⊎◌, List, [], ◌∷◌, All}

-- an ASCII letter
abbrev pub IsLetter : ℕ → Type 0
IsLetter c = ((65 ≤ c) × (c ≤ 90)) ⊎ ((97 ≤ c) × (c ≤ 122))

-- an ASCII letter, a digit or `_`
abbrev pub IsNameByte : ℕ → Type 0
IsNameByte c = IsLetter c ⊎ ((48 ≤ c) × (c ≤ 57)) ⊎ (c ≡ 95)

-- an ASCII letter followed by ASCII letters, digits or `_`
abbrev pub IsName : List ℕ → Type 0
IsName [] = ⊥
IsName (c ∷ cs) = IsLetter c × All IsNameByte cs
