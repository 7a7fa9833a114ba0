-- What the calls that add a variable do to a registry.
--     singleton_sets t       the set of a variable that stands for the type t
--     Derives old n f result new      the registry gains what is derived by f from the variable n, unless it was there
--     GrowsByOne old new              the registry gains at most one variable
use Rattle.std.specs.Prelude.{◌≡◌, ◌≢◌, ℕ, ◌<◌, ◌≤◌, ◌==◌, List, [], ◌∷◌, ◌++◌, length, Result, Ok, IfOk, OnOk, OnErr, if◌then◌else◌}
use Rattle.meta_types.specs.TypeParts.{NumberKind, IntKind, FloatKind, TypeParts}
use Rattle.meta_types.specs.DerivedFunc.{function_of}
use Rattle.meta_types.specs.declared.derived_func.DerivedFunc.{DerivedFunc}
use Rattle.meta_typevar.specs.TypeSetParts.{TypeSetParts}
use Rattle.meta_typevar.specs.Variable.{longer}
use Rattle.meta_typevar.specs.Registry.{variable_at, derived_content, IsKept}
use Rattle.meta_typevar.specs.declared.content.TypeVarContent.{TypeVarContent}

-- one number, where it is of this kind
abbrev pub int_width_of : NumberKind → ℕ → List ℕ
int_width_of IntKind width = width ∷ []
int_width_of FloatKind width = []

abbrev pub float_width_of : NumberKind → ℕ → List ℕ
float_width_of IntKind width = []
float_width_of FloatKind width = width ∷ []

-- the lane count, where there is more than one lane
abbrev pub vector_lanes : ℕ → List ℕ
vector_lanes lanes = if lanes == 1 then [] else (lanes ∷ [])

-- the set of a variable that stands for the type t: its width, and its lane count as lanes, and as dynamic lanes too where
-- there is more than one lane. So a vector, fixed or dynamic, gives a set of two types
abbrev pub singleton_sets : TypeParts → TypeSetParts
singleton_sets t = record {
  lanes = t.lanes ∷ [];
  dynamic_lanes = vector_lanes t.lanes;
  ints = int_width_of t.kind t.width;
  floats = float_width_of t.kind t.width;
}

-- a call answers the variable that is derived by f from the one with the number n. Where it was there, the registry stays;
-- else it is added at the end. Where there was no answer the registry stays
pub record Derives {E : Type 0} (old : List TypeVarContent) (n : ℕ) (f : DerivedFunc) (result : Result ℕ E) (new : List TypeVarContent) :
    Type 0 where
  pub known : (m : ℕ) → m < length old → variable_at old m ≡ longer (variable_at old n) (function_of f) → (result ≡ Ok m) × (new ≡ old)
  pub added : ((m : ℕ) → m < length old → variable_at old m ≢ longer (variable_at old n) (function_of f)) → (c : TypeVarContent)
      → IsKept old n c → OnOk result (new ≡ old ++ (derived_content old n c f ∷ []))
  pub answer : IfOk result (λ m. (m < length new) × (variable_at new m ≡ longer (variable_at old n) (function_of f)))
  pub err : OnErr result (new ≡ old)

-- new begins with all that old has, and has at most one variable more, at its end
pub record GrowsByOne (old new : List TypeVarContent) : Type 0 where
  pub more : List TypeVarContent
  pub is : new ≡ old ++ more
  pub few : length more ≤ 1
