-- What `synth` writes.
use Rattle.std.specs.Prelude.{◌≡◌, ℕ, List, [], ◌∷◌, ◌++◌}
use Rattle.meta_build.specs.AllDeclared.{Declared}
use Rattle.meta_gen.specs.WholeTables.{WholeTables, AreWholeTablesOf}
use Rattle.meta_query.specs.Synth.{IsSynth}
use Rattle.meta_query.specs.Summary.{IsSummaryOf}

-- the line, with LF, that says what the tables of the declarations of the number hold
pub record IsSynthOutput (n : ℕ) (out : List ℕ) : Type 0 where
  pub declared : Declared
  pub is_synth : IsSynth n declared
  pub tables : WholeTables
  pub are_tables : AreWholeTablesOf declared tables
  pub line : List ℕ
  pub is_summary : IsSummaryOf n declared.set tables.opcodes line
  pub is : out ≡ line ++ 10 ∷ []
