-- Type variables.
use Rattle.std.specs.Prelude.{◌≡◌, ℕ, List, [], ◌∷◌, ◌++◌}
use Rattle.meta_types.specs.Function.{Function}
use Rattle.meta_typevar.specs.TypeSetParts.{TypeSetParts}
use Rattle.meta_typevar.specs.Chain.{IsFixedNowhere}

-- a variable is a root, by its number, and the chain of functions that leads from there to it
pub record Variable : Type 0 where
  pub root : ℕ
  pub chain : List Function

-- a root itself
abbrev pub underived : ℕ → Variable
underived n = record { root = n; chain = [] }

-- what is derived from v by f
abbrev pub longer : Variable → Function → Variable
longer v f = record { root = v.root; chain = v.chain ++ (f ∷ []) }

-- w is derived from v by f alone
pub record IsDerivedBy (v w : Variable) (f : Function) : Type 0 where
  pub root : w.root ≡ v.root
  pub chain : w.chain ≡ v.chain ++ (f ∷ [])

-- the set of each root, by its number
abbrev pub Sets : Type 0
Sets = ℕ → TypeSetParts

-- no type is fixed for w, by its root's set and its chain
abbrev pub IsOpen : Sets → Variable → Type 0
IsOpen sets w = IsFixedNowhere (sets w.root) w.chain
