-- A registry of type variables, as contracts see it: the list of what is kept of each, by its number.
--     sets_of vars           the set of each root
--     variable_at vars n     the variable with the number n: its root and its chain
--     coded_at vars n        the coded image of its root's set along its chain
--     IsRegistry vars        each is a root or derived from an earlier one, and no two are the same
use Rattle.std.specs.Prelude.{◌≡◌, ℕ, ◌<◌, ◌^◌, List, [], ◌∷◌, ◌++◌, length, slice_get, Option, None, Some, Bool, true, false}
use Rattle.meta_types.specs.Function.{Function}
use Rattle.meta_types.specs.DerivedFunc.{function_of, function_name}
use Rattle.meta_types.specs.declared.derived_func.DerivedFunc.{DerivedFunc}
use Rattle.meta_typevar.specs.TypeSetParts.{TypeSetParts, IsTypeSet, no_types}
use Rattle.meta_typevar.specs.Image.{image_of}
use Rattle.meta_typevar.specs.Variable.{Variable, Sets, underived}
use Rattle.meta_typevar.specs.declared.content.TypeVarContent.{TypeVarContent}
use Rattle.meta_typevar.specs.declared.content.TypeVarParent.{TypeVarParent}

-- the coded image of a set along a chain, from the root outwards
abbrev pub coded_along : List Function → TypeSetParts → TypeSetParts
coded_along [] s = s
coded_along (f ∷ fs) s = coded_along fs (image_of f s)

-- what is kept of a root with this name, documentation and type set, whose number is n
abbrev pub root_content : List ℕ → List ℕ → TypeSetParts → ℕ → TypeVarContent
root_content name doc type_set n = record { name = name; doc = doc; base = None; type_set = type_set; root = n; chain = [] }

-- the type set that is kept of a variable
abbrev pub set_of : TypeVarContent → TypeSetParts
set_of content = content.type_set

-- the root and the chain of what stands at the number n: an unknown number is a root
abbrev pub variable_from : ℕ → Option TypeVarContent → Variable
variable_from n None = underived n
variable_from n (Some content) = record { root = content.root; chain = content.chain }

-- the set of what stands at a place of the list, and without a member past its end
abbrev pub set_at : Option TypeVarContent → TypeSetParts
set_at None = no_types
set_at (Some content) = set_of content

-- the set of each root, by its number
abbrev pub sets_of : List TypeVarContent → Sets
sets_of vars n = set_at (slice_get vars n)

-- the root and the chain of the variable with the number n
abbrev pub variable_at : List TypeVarContent → ℕ → Variable
variable_at vars n = variable_from n (slice_get vars n)

-- the coded image of a variable: that of its root's set along its chain
abbrev pub coded_of : List TypeVarContent → Variable → TypeSetParts
coded_of vars v = coded_along v.chain (sets_of vars v.root)

abbrev pub coded_at : List TypeVarContent → ℕ → TypeSetParts
coded_at vars n = coded_of vars (variable_at vars n)

-- the image under the last function, where there is one
abbrev pub last_image : TypeSetParts → Option TypeVarParent → TypeSetParts
last_image s None = s
last_image s (Some parent) = image_of (function_of parent.derived_func) s

-- the coded image of a variable by what is kept of it: the set of a root, and else the image of the parent's
abbrev pub coded_set : TypeVarContent → TypeSetParts
coded_set content = last_image content.type_set content.base

-- the name of a derived variable: `lane_of(X)`
abbrev pub derived_name : Function → List ℕ → List ℕ
derived_name f name = function_name f ++ (40 ∷ (name ++ (41 ∷ [])))

-- what is kept of the variable that is derived by f from the one with the number n, of which c is kept: its name is made of
-- the function's and the parent's, it has no documentation, and its type set is the coded image of its parent
abbrev pub derived_content : List TypeVarContent → ℕ → TypeVarContent → DerivedFunc → TypeVarContent
derived_content vars n c f = record {
  name = derived_name (function_of f) c.name;
  doc = [];
  base = Some (record { type_var = n; derived_func = f });
  type_set = coded_at vars n;
  root = c.root;
  chain = c.chain ++ (function_of f ∷ []);
}

-- c stands at the place n
abbrev pub IsKept : List TypeVarContent → ℕ → TypeVarContent → Type 0
IsKept vars n c = slice_get vars n ≡ Some c

-- d is what is kept of the variable that is derived by f from the one with the number n
pub record IsDerivation (vars : List TypeVarContent) (n : ℕ) (f : DerivedFunc) (d : TypeVarContent) : Type 0 where
  pub parent : TypeVarContent
  pub kept : IsKept vars n parent
  pub is : d ≡ derived_content vars n parent f

-- whether a variable has no parent
abbrev pub is_root : TypeVarContent → Bool
is_root content = has_no_parent content.base
  where
    has_no_parent : Option TypeVarParent → Bool
    has_no_parent None = true
    has_no_parent (Some parent) = false

-- the place has a variable without a parent
pub record IsRoot (vars : List TypeVarContent) (n : ℕ) : Type 0 where
  pub content : TypeVarContent
  pub kept : IsKept vars n content
  pub without_parent : content.base ≡ None

-- c is kept of the variable that is derived from an earlier one by one function
pub record IsDerivedFrom (vars : List TypeVarContent) (n : ℕ) (c : TypeVarContent) (parent : TypeVarParent) : Type 0 where
  pub parent_content : TypeVarContent
  pub kept : IsKept vars parent.type_var parent_content
  pub earlier : parent.type_var < n
  pub root : c.root ≡ parent_content.root
  pub chain : c.chain ≡ parent_content.chain ++ (function_of parent.derived_func ∷ [])
  pub set : c.type_set ≡ coded_along parent_content.chain (sets_of vars parent_content.root)

-- what has no parent is its own root, and what has one is derived from it
abbrev pub IsRootOrDerived : List TypeVarContent → ℕ → TypeVarContent → Option TypeVarParent → Type 0
IsRootOrDerived vars n c None = (c.root ≡ n) × (c.chain ≡ [])
IsRootOrDerived vars n c (Some parent) = IsDerivedFrom vars n c parent

-- c stands rightly at the place n
pub record IsVariable (vars : List TypeVarContent) (n : ℕ) (c : TypeVarContent) : Type 0 where
  pub placed : IsRootOrDerived vars n c c.base
  pub root : IsRoot vars c.root

-- what is kept as the set of the variable with the number n is its coded image
abbrev pub IsRaw : List TypeVarContent → ℕ → Type 0
IsRaw vars n = sets_of vars n ≡ coded_at vars n

-- each number has a set that holds widths and lane counts of types alone
abbrev pub HoldTypeSets : List TypeVarContent → Type 0
HoldTypeSets vars = (n : ℕ) → IsTypeSet (sets_of vars n)

-- no two variables have the same parent and function
abbrev pub AreDerivedOnce : List TypeVarContent → Type 0
AreDerivedOnce vars = (n m : ℕ) (c d : TypeVarContent) (p : TypeVarParent) → IsKept vars n c → IsKept vars m d → c.base ≡ Some p
    → d.base ≡ Some p → n ≡ m

-- there are few enough variables to be numbered by 32 bits, their sets are type sets, each stands rightly, and no derived
-- one stands twice
pub record IsRegistry (vars : List TypeVarContent) : Type 0 where
  pub few : length vars < 2 ^ 32
  pub sets : HoldTypeSets vars
  pub variables : (n : ℕ) (c : TypeVarContent) → IsKept vars n c → IsVariable vars n c
  pub different : AreDerivedOnce vars
