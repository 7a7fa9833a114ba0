-- Tables of things and their words.
use Rattle.std.specs.Prelude.{ℕ, zero, suc, ◌==◌, List, [], ◌∷◌, Option, Some, None, if◌then◌else◌}
use Rattle.std.specs.Cmp.Lexicographic.{pointwise}

-- the first thing of the table that has this word
abbrev pub with_word : {A : Type 0} → List (A × List ℕ) → List ℕ → Option A
with_word [] word = None
with_word ((thing, text) ∷ more) word = if pointwise ◌==◌ word text then Some thing else with_word more word

-- the word of the thing at a place of the table
abbrev pub word_at : {A : Type 0} → List (A × List ℕ) → ℕ → List ℕ
word_at [] place = []
word_at (row ∷ more) zero = row.1
word_at (row ∷ more) (suc place) = word_at more place
