-- Chains without a relation. Such a chain leads from a type to at most one type.
use Rattle.std.specs.Prelude.{◌≡◌, List, [], ◌∷◌}
use Rattle.meta_types.specs.TypeParts.{TypeParts}
use Rattle.meta_types.specs.Function.{Function, Answers}

-- the functions of the chain, none of which is a relation, lead from the type r to the type t
abbrev pub Reaches : List Function → TypeParts → TypeParts → Type 0
Reaches [] r t = t ≡ r
Reaches (f ∷ fs) r t = (u : TypeParts) × Answers f r u × Reaches fs u t
