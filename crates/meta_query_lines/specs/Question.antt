-- The line that asks whether an instruction accepts types.
use Rattle.std.specs.Prelude.{ℕ, List, [], ◌∷◌, All, IfSome, codes}
use Rattle.meta_types.specs.TypeParts.{IsType}
use Rattle.meta_gen.specs.Question.{Question}
use Rattle.meta_lines.specs.Words.{AreWords}
use Rattle.meta_lines.specs.Control.{control_text, IsAfter}
use Rattle.meta_lines.specs.TypeList.{types_text}

-- the words of the line that asks: `accept NAME CONTROL RESULTS VALUES`, where CONTROL gives both controlling types
abbrev pub question_words : List ℕ → List ℕ → List ℕ → List ℕ → List (List ℕ)
question_words name control results values = codes "accept" ∷ name ∷ control ∷ results ∷ values ∷ []

abbrev pub question_words_of : Question → List (List ℕ)
question_words_of q = question_words q.name (control_text q.control q.second) (types_text q.results) (types_text q.values)

-- the line asks q: it is the words of q, and each type of q can be named
pub record IsQuestion (line : List ℕ) (q : Question) : Type 0 where
  pub words : AreWords line (question_words_of q)
  pub control : IfSome q.control IsType
  pub second : IfSome q.second IsType
  pub after : IsAfter q.control q.second
  pub results : All IsType q.results
  pub values : All IsType q.values
