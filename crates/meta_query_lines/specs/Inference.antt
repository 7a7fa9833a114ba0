-- The line that asks what an instruction infers, and the line of the results.
use Rattle.std.specs.Prelude.{◌≡◌, ◌≢◌, ◌⊎◌, ℕ, List, [], ◌∷◌, ◌++◌, length, slice_get, flat_map, Option, Some, IfSome, codes}
use Rattle.meta_types.specs.TypeParts.{TypeParts, IsType, number_of, name_of}
use Rattle.meta_lines.specs.Words.{AreWords}
use Rattle.meta_lines.specs.Control.{control_text, IsAfter}

-- which results the instruction of this name infers of the types of its control and of its second control
pub record Inference : Type 0 where
  pub name : List ℕ
  pub control : Option TypeParts
  pub second : Option TypeParts

-- the words of the line that asks: `infer NAME CONTROL`, where CONTROL gives both controlling types
abbrev pub inference_words : List ℕ → List ℕ → List (List ℕ)
inference_words name control = codes "infer" ∷ name ∷ control ∷ []

-- the line asks q: it is the words of q, and each type of q can be named
pub record IsInference (line : List ℕ) (q : Inference) : Type 0 where
  pub words : AreWords line (inference_words q.name (control_text q.control q.second))
  pub control : IfSome q.control IsType
  pub second : IfSome q.second IsType
  pub after : IsAfter q.control q.second

-- the word for the number of a result: the name of the type that has it, and `?` where none has, as 0
abbrev pub IsResultWord : ℕ → List ℕ → Type 0
IsResultWord n word = ((t : TypeParts) × IsType t × (number_of t ≡ n) × (word ≡ name_of t))
    ⊎ (((t : TypeParts) → IsType t → number_of t ≢ n) × (word ≡ codes "?"))

-- the words are those of the numbers, in order
pub record AreResultWords (numbers : List ℕ) (words : List (List ℕ)) : Type 0 where
  pub count : length words ≡ length numbers
  pub each : (k n : ℕ) (word : List ℕ) → slice_get numbers k ≡ Some n → slice_get words k ≡ Some word → IsResultWord n word

-- words after the first, each with a comma before it
abbrev pub more_words : List (List ℕ) → List ℕ
more_words words = flat_map (λ (word : List ℕ). 44 ∷ word) words

-- the line of the results: `results` and the words, parted by commas, or `-` for none
abbrev pub results_text : List (List ℕ) → List ℕ
results_text [] = codes "results -"
results_text (word ∷ words) = codes "results " ++ (word ++ more_words words)

-- the line tells these numbers of results
abbrev pub IsResultsLine : List ℕ → List ℕ → Type 0
IsResultsLine numbers line = (words : List (List ℕ)) × AreResultWords numbers words × (line ≡ results_text words)
