-- The answers that explain the lines of an input.
--     AreTexts R lines out             out is the texts that R gives the lines, each with LF
--     IsExplainedOutput d input out    out answers the whole input over declarations
use Rattle.std.specs.Prelude.{◌≡◌, ℕ, List, [], ◌∷◌, ◌++◌, Option, Some}
use Rattle.meta_inst.specs.Built.{BuiltInstruction}
use Rattle.meta_build.specs.AllDeclared.{Declared}
use Rattle.meta_build.specs.BuiltDeclarations.{BuiltDeclarations, AreBuilt}
use Rattle.meta_gen.specs.WholeTables.{WholeTables, AreWholeTablesOf}
use Rattle.meta_lines.specs.Lines.{lines_of}
use Rattle.meta_query_lines.specs.Explanation.{IsExplanation}

-- what a line is answered with, where R says which text answers it: nothing where it is empty, and else such a text and LF
abbrev pub IsLineText : (List ℕ → List ℕ → Type 0) → List ℕ → List ℕ → Type 0
IsLineText R [] text = text ≡ []
IsLineText R (c ∷ cs) text = (answer : List ℕ) × R (c ∷ cs) answer × (text ≡ answer ++ 10 ∷ [])

-- the answers of the lines, in order
abbrev pub AreTexts : (List ℕ → List ℕ → Type 0) → List (List ℕ) → List ℕ → Type 0
AreTexts R [] out = out ≡ []
AreTexts R (line ∷ lines) out = (first : List ℕ) × (rest : List ℕ) × IsLineText R line first × AreTexts R lines rest × (out ≡ first ++ rest)

-- the answers to the lines by tables and, where they are known, the instructions
abbrev pub AreExplained : WholeTables → Option (List BuiltInstruction) → List (List ℕ) → List ℕ → Type 0
AreExplained tables told lines out = AreTexts (IsExplanation tables told) lines out

-- the output for an input: the answers of its lines, by the tables of the declarations, which are valid, and their instructions
pub record IsExplainedOutput (d : Declared) (input out : List ℕ) : Type 0 where
  pub built : BuiltDeclarations
  pub are_built : AreBuilt built
  pub is_of : built.declared ≡ d
  pub tables : WholeTables
  pub are_tables : AreWholeTablesOf d tables
  pub answers : AreExplained tables (Some built.instructions) (lines_of input) out
