-- Which values are defined, and of which types.
use Rattle.std.specs.Prelude.{◌≡◌, ℕ, ◌==◌, List, [], ◌∷◌, map, Option, None, Some, if◌then◌else◌, is_some}
use Rattle.meta_types.specs.TypeParts.{TypeParts, IsType}
use Rattle.meta_verify.specs.Statement.{TypedValue}

-- the type of each value that is defined
abbrev pub Environment : Type 0
Environment = ℕ → Option TypeParts

-- no value is defined
abbrev pub nothing_defined : Environment
nothing_defined v = None

-- one value more, or another type for it
abbrev pub with_value : Environment → TypedValue → Environment
with_value env r v = if r.value == v then Some r.type else env v

-- these values more, in order
abbrev pub with_values : Environment → List TypedValue → Environment
with_values env [] = env
with_values env (r ∷ rs) = with_values (with_value env r) rs

-- the first of the values that isn't defined
abbrev pub first_undefined : Environment → List ℕ → Option ℕ
first_undefined env [] = None
first_undefined env (v ∷ vs) = if is_some (env v) then first_undefined env vs else Some v

-- the first of the values that is defined before, or further left in the list
abbrev pub first_redefined : Environment → List TypedValue → Option ℕ
first_redefined env [] = None
first_redefined env (r ∷ rs) = if is_some (env r.value) then Some r.value else first_redefined (with_value env r) rs

-- the values have these types
abbrev pub HaveTypes : Environment → List ℕ → List TypeParts → Type 0
HaveTypes env values types = map env values ≡ map (λ t. Some t) types

-- the type of each value that is defined can be named, as those that a checker knows
abbrev pub HasNamedTypes : Environment → Type 0
HasNamedTypes env = (v : ℕ) (t : TypeParts) → env v ≡ Some t → IsType t
