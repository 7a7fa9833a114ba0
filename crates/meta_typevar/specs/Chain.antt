-- Chains of derived functions, from a root outwards.
--     Agrees chain r t       the chain leads from the type r of the root to the type t
--     IsFixed s chain t      whatever member of s the root has, the chain leads to t alone
use Rattle.std.specs.Prelude.{◌≡◌, List, [], ◌∷◌, All}
use Rattle.meta_types.specs.TypeParts.{TypeParts}
use Rattle.meta_types.specs.Function.{Function, StepsTypes, IsFunction}
use Rattle.meta_typevar.specs.TypeSetParts.{TypeSetParts, IsMember}

-- the chain leads from the type r of its root to the type t: along no function to r itself, and else by one step to
-- some type, and from there along the rest
abbrev pub Agrees : List Function → TypeParts → TypeParts → Type 0
Agrees [] r t = t ≡ r
Agrees (f ∷ fs) r t = (u : TypeParts) × StepsTypes f r u × Agrees fs u t

-- t is fixed for a variable with this chain from a root with the set s: no relation is in the chain, the set has a
-- member, and each member leads to t, and to nothing else
pub record IsFixed (s : TypeSetParts) (chain : List Function) (t : TypeParts) : Type 0 where
  pub functions : All IsFunction chain
  pub member : TypeParts
  pub inhabited : IsMember s member
  pub reached : (r : TypeParts) → IsMember s r → Agrees chain r t
  pub only : (r x : TypeParts) → IsMember s r → Agrees chain r x → x ≡ t

-- no type is fixed
abbrev pub IsFixedNowhere : TypeSetParts → List Function → Type 0
IsFixedNowhere s chain = (t : TypeParts) → IsFixed s chain t → ⊥
