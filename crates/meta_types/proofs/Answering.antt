-- The type with the parts to which alone a function may lead is its answer.
use Rattle.std.proofs.Common.{rules, Option, Some, None, IfSome, IfNone, Contains, subst, subst₂, ◌&&◌, nat_lt, ◌≡◌, true, sym, ℕ, ◌*◌, ◌/◌}
use Rattle.meta_types.specs.TypeParts.{NumberKind, IntKind, FloatKind, TypeParts, IsType, widths}
use Rattle.meta_types.specs.Function.{Function, HalfWidth, SplitLanes, MergeLanes, DynamicToVector, Narrower, Wider, IsFunction, Answers}
use Rattle.meta_types.specs.ValueTypes.{type_parts_of}
use Rattle.meta_types.specs.declared.value_type.ValueType.{ValueType}
use Rattle.meta_types.proofs.OneAnswer.{candidate, only, even}
use Rattle.meta_types.proofs.Typed.{typed}

-- the function takes u: any type, but for `dynamic_to_vector`, which takes a dynamic vector of less than 256 lanes
abbrev pub Takes : Function → TypeParts → Type 0
Takes DynamicToVector u = true ≡ (u.is_dynamic && nat_lt u.lanes 256)
Takes Narrower u = ⊥
Takes Wider u = ⊥
Takes f u = IsFunction f

-- half of a width that is one itself
even_width : (kind : NumberKind) (n : ℕ) → Contains (widths kind) n → Contains (widths kind) (n / 2) → 2 * (n / 2) ≡ n
even_width IntKind n h k = search rules
even_width FloatKind n h k = search rules

-- it leads to those parts where they are a type's
leads : (f : Function) (u : TypeParts) → Takes f u → IsType u → IsType (candidate f u) → Answers f u (candidate f u)
leads HalfWidth u takes from to = halved (even_width u.kind u.width from.width to.width)
  where
    halved : 2 * (u.width / 2) ≡ u.width → Answers HalfWidth u (candidate HalfWidth u)
    halved e = search rules
leads SplitLanes u takes from to = halved (even_width u.kind u.width from.width to.width)
  where
    halved : 2 * (u.width / 2) ≡ u.width → Answers SplitLanes u (candidate SplitLanes u)
    halved e = search rules
leads MergeLanes u takes from to = halved (even u.is_dynamic u.is_dynamic u.lanes from.lanes to.lanes)
  where
    halved : 2 * (u.lanes / 2) ≡ u.lanes → Answers MergeLanes u (candidate MergeLanes u)
    halved e = search rules
leads Narrower u takes from to = absurd takes
leads Wider u takes from to = absurd takes
leads f u takes from to = search rules

-- the type with those parts is the answer
pub found : (g f : Function) (v u : TypeParts) (r : Option ValueType) → g ≡ f → u ≡ v → IsType v → Takes f u
    → IfSome r (λ t. type_parts_of t ≡ candidate f u) → IfSome r (λ t. Answers g v (type_parts_of t))
found g f v u (Some t) is same from takes of =
    subst₂ (λ h x. Answers h x (type_parts_of t)) (sym is) same
    (subst (Answers f u) (sym of) (leads f u takes (subst IsType (sym same) from) (subst IsType of (typed t))))
found g f v u None is same from takes of = of

-- where it isn't a type's there is no answer
pub none : (g f : Function) (v u : TypeParts) (r : Option ValueType) → g ≡ f → u ≡ v → IfNone r (¬ IsType (candidate f u))
    → IfNone r ((t : TypeParts) → ¬ Answers g v t)
none g f v u (Some t) is same of = of
none g f v u None is same of = λ t answers.
    let here : Answers f u t = subst₂ (λ h x. Answers h x t) is (sym same) answers in
    of (subst IsType (only f u t here) here.steps.to)
