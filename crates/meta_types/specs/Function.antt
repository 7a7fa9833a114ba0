-- Derived functions: what leads from the type of a variable to the type of one that is derived from it.
use Rattle.std.specs.Prelude.{◌≡◌, ◌≢◌, ◌⊎◌, ℕ, ◌*◌, ◌==◌, ◌&&◌, ◌||◌, not, nat_lt, Bool, true, false, IsTrue}
use Rattle.meta_types.specs.TypeParts.{NumberKind, IntKind, FloatKind, TypeParts, IsType, number_of}

-- seven functions, which answer one type at most, and two relations, Narrower and Wider
pub data Function : Type 0 where
  LaneOf : Function
  AsTruthy : Function
  HalfWidth : Function
  DoubleWidth : Function
  SplitLanes : Function
  MergeLanes : Function
  DynamicToVector : Function
  Narrower : Function
  Wider : Function

-- whether two kinds of lane are the same
abbrev pub same_kind : NumberKind → NumberKind → Bool
same_kind IntKind IntKind = true
same_kind IntKind FloatKind = false
same_kind FloatKind IntKind = false
same_kind FloatKind FloatKind = true

-- whether two dynamic marks are the same
abbrev pub same_mark : Bool → Bool → Bool
same_mark true true = true
same_mark true false = false
same_mark false true = false
same_mark false false = true

-- whether a type has one lane, as no dynamic vector has
abbrev pub is_scalar : TypeParts → Bool
is_scalar t = t.lanes == 1

-- whether the function leads from the type u to the type t
abbrev pub relates : Function → TypeParts → TypeParts → Bool
-- the lane of u
relates LaneOf u t = same_kind t.kind u.kind && (t.width == u.width && is_scalar t)
-- `i8` for a scalar; for a vector the int vector of its width, lanes and mark
relates AsTruthy u t = same_kind t.kind IntKind
    && ((is_scalar u && (is_scalar t && t.width == 8)) ||
    (not (is_scalar u) && (t.width == u.width && (t.lanes == u.lanes && same_mark t.is_dynamic u.is_dynamic))))
-- u with half, twice the width
relates HalfWidth u t = same_kind t.kind u.kind && (2 * t.width == u.width && (t.lanes == u.lanes && same_mark t.is_dynamic u.is_dynamic))
relates DoubleWidth u t = same_kind t.kind u.kind && (t.width == 2 * u.width && (t.lanes == u.lanes && same_mark t.is_dynamic u.is_dynamic))
-- half the width and twice the lanes, and the other way round
relates SplitLanes u t = same_kind t.kind u.kind
    && (2 * t.width == u.width && (t.lanes == 2 * u.lanes && same_mark t.is_dynamic u.is_dynamic))
relates MergeLanes u t = same_kind t.kind u.kind
    && (t.width == 2 * u.width && (2 * t.lanes == u.lanes && same_mark t.is_dynamic u.is_dynamic))
-- the fixed vector of a dynamic vector of less than 256 lanes
relates DynamicToVector u t = same_kind t.kind u.kind
    && (t.width == u.width && (t.lanes == u.lanes && (u.is_dynamic && (not t.is_dynamic && nat_lt u.lanes 256))))
-- two scalars of one kind, of which t has fewer, more bits
relates Narrower u t = same_kind t.kind u.kind && (is_scalar u && (is_scalar t && nat_lt t.width u.width))
relates Wider u t = same_kind t.kind u.kind && (is_scalar u && (is_scalar t && nat_lt u.width t.width))

-- f leads from the type u to the type t. A function gives nothing where its answer would be no type
pub record StepsTypes (f : Function) (u t : TypeParts) : Type 0 where
  pub from : IsType u
  pub to : IsType t
  pub relates : IsTrue (relates f u t)

-- f is one of the two relations
abbrev pub IsRelation : Function → Type 0
IsRelation f = (f ≡ Narrower) ⊎ (f ≡ Wider)

-- f is one of the seven functions, and no relation
abbrev pub IsFunction : Function → Type 0
IsFunction f = (f ≢ Narrower) × (f ≢ Wider)

-- t is the answer of f at the type u: f is a function, and leads from u to t
pub record Answers (f : Function) (u t : TypeParts) : Type 0 where
  pub is_function : IsFunction f
  pub steps : StepsTypes f u t

-- f leads from a type of number c to a type of number m
pub record StepsNumbers (f : Function) (c m : ℕ) : Type 0 where
  pub from : TypeParts
  pub to : TypeParts
  pub steps : StepsTypes f from to
  pub number_from : number_of from ≡ c
  pub number_to : number_of to ≡ m

-- m is the number of the answer of f at the type of number c
pub record AnswersNumber (f : Function) (c m : ℕ) : Type 0 where
  pub is_function : IsFunction f
  pub steps : StepsNumbers f c m
