-- The first words of a list, and the first byte of a word.
use Rattle.std.proofs.Common.{ℕ, List, [], ◌∷◌}

abbrev pub first : List (List ℕ) → List ℕ
first [] = []
first (a ∷ words) = a

abbrev pub second : List (List ℕ) → List ℕ
second [] = []
second (a ∷ []) = []
second (a ∷ b ∷ words) = b

abbrev pub third : List (List ℕ) → List ℕ
third [] = []
third (a ∷ []) = []
third (a ∷ b ∷ []) = []
third (a ∷ b ∷ c ∷ words) = c

abbrev pub fourth : List (List ℕ) → List ℕ
fourth [] = []
fourth (a ∷ []) = []
fourth (a ∷ b ∷ []) = []
fourth (a ∷ b ∷ c ∷ []) = []
fourth (a ∷ b ∷ c ∷ d ∷ words) = d

abbrev pub after_one : List (List ℕ) → List (List ℕ)
after_one [] = []
after_one (a ∷ words) = words

abbrev pub after_two : List (List ℕ) → List (List ℕ)
after_two [] = []
after_two (a ∷ []) = []
after_two (a ∷ b ∷ words) = words

abbrev pub first_letter : List ℕ → ℕ
first_letter [] = 0
first_letter (c ∷ cs) = c

-- that of the first word
abbrev pub letter : List (List ℕ) → ℕ
letter words = first_letter (first words)

abbrev pub second_letter : List ℕ → ℕ
second_letter [] = 0
second_letter (a ∷ []) = 0
second_letter (a ∷ b ∷ letters) = b
