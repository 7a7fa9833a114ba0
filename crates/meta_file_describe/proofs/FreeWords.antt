-- Words that no thing has yet, and that stay given.
use Rattle.std.proofs.Common.{◌≡◌, ◌∙◌, ℕ, Bool, true, false, eqb, List, refl, ap}
use Rattle.std.specs.Prelude.{◌||◌}
use Rattle.std.specs.Cmp.Lexicographic.{pointwise, bytes_decides}
use Rattle.meta_file_describe.specs.declared.words.Words.{Words}
use Rattle.meta_file_describe.specs.GivenWords.{is_given}

abbrev Keeps : Words → Words → List ℕ → Type 0
Keeps old new word = (other : List ℕ) → is_given new other ≡ (pointwise eqb other word || is_given old other)

or_true : (b : Bool) → (b || true) ≡ true
or_true true = refl
or_true false = refl

-- it is given
pub itself : (old new : Words) (word : List ℕ) → Keeps old new word → is_given new word ≡ true
itself old new word kept =
    kept word ∙ ap (λ (b : Bool). b || is_given old word) ((bytes_decides word word).1 refl)

-- and so are those that were
pub stays : (old new : Words) (word other : List ℕ) → Keeps old new word → is_given old other ≡ true → is_given new other ≡ true
stays old new word other kept given =
    kept other ∙ (ap (λ (b : Bool). pointwise eqb other word || b) given ∙ or_true (pointwise eqb other word))
