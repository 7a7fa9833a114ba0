-- How many functions lead from the root to a variable, and the name of that root.
--     depth_at vars n           their count
--     IsAfter vars p n         the variable n has one function more than p
--     root_name_at vars n       the name of the root
use Rattle.std.specs.Prelude.{◌≡◌, ◌<◌, ◌+◌, ℕ, List, [], length, slice_get, Option, Some, None}
use Rattle.meta_typevar.specs.Registry.{variable_at}
use Rattle.meta_typevar.specs.declared.content.TypeVarContent.{TypeVarContent}

-- how many functions lead from the root to the variable with the number n
abbrev pub depth_at : List TypeVarContent → ℕ → ℕ
depth_at vars n = length (variable_at vars n).chain

-- the variable with the number n has one function more than that with the number p
pub record IsAfter (vars : List TypeVarContent) (n p : ℕ) : Type 0 where
  pub of : p < length vars
  pub depth : depth_at vars n ≡ depth_at vars p + 1

-- the name of the root of the variable with the number n
abbrev pub name_from : Option TypeVarContent → List ℕ
name_from None = []
name_from (Some content) = content.name

abbrev pub root_name_at : List TypeVarContent → ℕ → List ℕ
root_name_at vars n = name_from (slice_get vars (variable_at vars n).root)
