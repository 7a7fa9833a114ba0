-- A name in a text with types left out.
use Rattle.std.specs.Prelude.{◌≢◌, ℕ, List, All}

-- a name that has no mark of a line: no space, no point, no `=`
pub record IsPlain (name : List ℕ) : Type 0 where
  pub space : All (λ b. b ≢ 32) name
  pub point : All (λ b. b ≢ 46) name
  pub equals : All (λ b. b ≢ 61) name
