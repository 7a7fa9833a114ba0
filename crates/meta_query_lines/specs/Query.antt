-- What a line asks.
--     Asks line q        the line asks q
use Rattle.std.specs.Prelude.{ℕ, List, [], ◌∷◌, codes}
use Rattle.meta_lines.specs.Words.{AreWords}
use Rattle.meta_gen.specs.Question.{Question}
use Rattle.meta_query_lines.specs.Question.{IsQuestion}
use Rattle.meta_query_lines.specs.Inference.{Inference, IsInference}
use Rattle.meta_query_lines.specs.declared.query.Query.{Query}
use Rattle.meta_query_lines.specs.declared.query.Query.TheVariants.{Accept, Infer, Setting}

-- whether an instruction accepts types, what it infers, or what the setting of this name is
pub data Asked : Type 0 where
  OfQuestion : Question → Asked
  OfInference : Inference → Asked
  OfSetting : List ℕ → Asked

-- what a query of the program asks for
abbrev pub asked_by : Query → Asked
asked_by (Accept q) = OfQuestion q
asked_by (Infer q) = OfInference q
asked_by (Setting name) = OfSetting name.now

-- the words of the line that asks for a setting: `setting NAME`
abbrev pub setting_words : List ℕ → List (List ℕ)
setting_words name = codes "setting" ∷ name ∷ []

-- the line asks it
abbrev pub Asks : List ℕ → Asked → Type 0
Asks line (OfQuestion q) = IsQuestion line q
Asks line (OfInference q) = IsInference line q
Asks line (OfSetting name) = AreWords line (setting_words name)
