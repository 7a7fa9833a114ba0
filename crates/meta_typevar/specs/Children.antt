-- The variables that are derived from one, by their functions.
--     AreKnown vars children      each derived variable is noted at its parent, by its function, and nothing else is
use Rattle.std.specs.Prelude.{◌≡◌, ℕ, List, length, slice_get, Option, None, Some}
use Rattle.meta_types.specs.declared.derived_func.DerivedFunc.{DerivedFunc}
use Rattle.meta_types.specs.declared.derived_func.DerivedFunc.TheVariants.{LaneOf, AsTruthy, HalfWidth, DoubleWidth, SplitLanes, MergeLanes}
use Rattle.meta_types.specs.declared.derived_func.DerivedFunc.TheVariants.{DynamicToVector, Narrower, Wider}
use Rattle.meta_typevar.specs.Registry.{IsKept}
use Rattle.meta_typevar.specs.declared.children.Children.{Children}
use Rattle.meta_typevar.specs.declared.content.TypeVarContent.{TypeVarContent}

-- the number of the variable that is derived by a function, if there is one
abbrev pub child_of : Children → DerivedFunc → Option ℕ
child_of c LaneOf = c.lane_of
child_of c AsTruthy = c.as_truthy
child_of c HalfWidth = c.half_width
child_of c DoubleWidth = c.double_width
child_of c SplitLanes = c.split_lanes
child_of c MergeLanes = c.merge_lanes
child_of c DynamicToVector = c.dynamic_to_vector
child_of c Narrower = c.narrower
child_of c Wider = c.wider

-- nothing is derived from a variable yet
abbrev pub no_children : Children
no_children = record {
  lane_of = None;
  as_truthy = None;
  half_width = None;
  double_width = None;
  split_lanes = None;
  merge_lanes = None;
  dynamic_to_vector = None;
  narrower = None;
  wider = None;
}

-- the variable with the number m is derived from the one with the number n by f
pub record IsChild (vars : List TypeVarContent) (n : ℕ) (f : DerivedFunc) (m : ℕ) : Type 0 where
  pub content : TypeVarContent
  pub kept : IsKept vars m content
  pub derived : content.base ≡ Some (record { type_var = n; derived_func = f })

-- there are as many, and each says which variables are derived from its own
pub record AreKnown (vars : List TypeVarContent) (children : List Children) : Type 0 where
  pub as_many : length children ≡ length vars
  pub sound : (n m : ℕ) (c : Children) (f : DerivedFunc) → slice_get children n ≡ Some c → child_of c f ≡ Some m → IsChild vars n f m
  pub complete : (n m : ℕ) (c : Children) (f : DerivedFunc) → slice_get children n ≡ Some c → IsChild vars n f m → child_of c f ≡ Some m
