use Rattle.std.proofs.Common.{rules, ap, subst, if◌then◌else◌, ◌∙◌, ◌&&◌, nat_lt, ◌≡◌, IfSome, IfNone}
use Rattle.meta_types.specs.Function.{LaneOf, AsTruthy, HalfWidth, DoubleWidth, SplitLanes, MergeLanes, DynamicToVector, is_scalar}
use Rattle.meta_types.specs.TypeParts.{IntKind, IsType}
use Rattle.meta_types.specs.ValueTypes.{type_parts_of}
use Rattle.meta_types.specs.DerivedFunc.{function_of}
use Rattle.meta_types.specs.Parts.{parts_meaning}
use Rattle.meta_types.proofs.Typed.{typed}
use Rattle.meta_types.proofs.Answering.{found, none}
use Rattle.meta_types.proofs.OneAnswer.{not_fixed}
use Rattle.meta_types.proofs.derived_func.DerivedFunc.apply.Goals as goal
use Rattle.meta_types.proofs.derived_func.DerivedFunc.apply.Goals.{then-is_scalar, else-is_scalar}

pub returns-in-LaneOf-clause-found : goal.returns-in-LaneOf-clause-found
returns-in-LaneOf-clause-found c = found _ LaneOf _ (parts_meaning c.of-from.result) c.value_type.result
    (ap function_of c.in-LaneOf.is) c.of-from.ensures (typed c.args.c) ((λ e. cc), (λ e. cc)) c.value_type.ensures.found

pub returns-in-LaneOf-clause-none : goal.returns-in-LaneOf-clause-none
returns-in-LaneOf-clause-none c = none _ LaneOf _ (parts_meaning c.of-from.result) c.value_type.result
    (ap function_of c.in-LaneOf.is) c.of-from.ensures c.value_type.ensures.none

-- the width of a truth value
width : (c : goal.After-value_type-in-AsTruthy) → c.if-is_scalar.value_type
    ≡ (if is_scalar (parts_meaning c.of-from.result) then 8 else c.of-from.result.width)
width c = elim c.if-is_scalar.branch [
  | then-is_scalar w ↦ w.value_type-is ∙ ap (λ b. if b then 8 else c.of-from.result.width) w.if-is_scalar.ensures
  | else-is_scalar w ↦ w.value_type-is ∙ ap (λ b. if b then 8 else c.of-from.result.width) w.if-is_scalar.ensures
]

pub returns-after-is_scalar-clause-found : goal.returns-after-is_scalar-clause-found
returns-after-is_scalar-clause-found c =
    found _ AsTruthy _ (parts_meaning c.of-from.result) c.value_type-in-AsTruthy.result (ap function_of c.in-AsTruthy.is) c.of-from.ensures
    (typed c.args.c) ((λ e. cc), (λ e. cc))
    (subst (λ w. IfSome c.value_type-in-AsTruthy.result (λ t. type_parts_of t ≡ record {
      kind = IntKind;
      width = w;
      lanes = c.of-from.result.lanes;
      is_dynamic = c.of-from.result.is_dynamic;
    })) (width c) c.value_type-in-AsTruthy.ensures.found)

pub returns-after-is_scalar-clause-none : goal.returns-after-is_scalar-clause-none
returns-after-is_scalar-clause-none c =
    none _ AsTruthy _ (parts_meaning c.of-from.result) c.value_type-in-AsTruthy.result (ap function_of c.in-AsTruthy.is) c.of-from.ensures
    (subst (λ w. IfNone c.value_type-in-AsTruthy.result
    (IsType (record { kind = IntKind; width = w; lanes = c.of-from.result.lanes; is_dynamic = c.of-from.result.is_dynamic }) → ⊥))
    (width c) c.value_type-in-AsTruthy.ensures.none)

pub returns-in-HalfWidth-clause-found : goal.returns-in-HalfWidth-clause-found
returns-in-HalfWidth-clause-found c = found _ HalfWidth _ (parts_meaning c.of-from.result) c.value_type-in-HalfWidth.result
    (ap function_of c.in-HalfWidth.is) c.of-from.ensures (typed c.args.c) ((λ e. cc), (λ e. cc)) c.value_type-in-HalfWidth.ensures.found

pub returns-in-HalfWidth-clause-none : goal.returns-in-HalfWidth-clause-none
returns-in-HalfWidth-clause-none c = none _ HalfWidth _ (parts_meaning c.of-from.result) c.value_type-in-HalfWidth.result
    (ap function_of c.in-HalfWidth.is) c.of-from.ensures c.value_type-in-HalfWidth.ensures.none

pub returns-in-DoubleWidth-clause-found : goal.returns-in-DoubleWidth-clause-found
returns-in-DoubleWidth-clause-found c = found _ DoubleWidth _ (parts_meaning c.of-from.result) c.value_type-in-DoubleWidth.result
    (ap function_of c.in-DoubleWidth.is) c.of-from.ensures (typed c.args.c) ((λ e. cc), (λ e. cc)) c.value_type-in-DoubleWidth.ensures.found

pub returns-in-DoubleWidth-clause-none : goal.returns-in-DoubleWidth-clause-none
returns-in-DoubleWidth-clause-none c = none _ DoubleWidth _ (parts_meaning c.of-from.result) c.value_type-in-DoubleWidth.result
    (ap function_of c.in-DoubleWidth.is) c.of-from.ensures c.value_type-in-DoubleWidth.ensures.none

pub returns-in-SplitLanes-clause-found : goal.returns-in-SplitLanes-clause-found
returns-in-SplitLanes-clause-found c = found _ SplitLanes _ (parts_meaning c.of-from.result) c.value_type-in-SplitLanes.result
    (ap function_of c.in-SplitLanes.is) c.of-from.ensures (typed c.args.c) ((λ e. cc), (λ e. cc)) c.value_type-in-SplitLanes.ensures.found

pub returns-in-SplitLanes-clause-none : goal.returns-in-SplitLanes-clause-none
returns-in-SplitLanes-clause-none c = none _ SplitLanes _ (parts_meaning c.of-from.result) c.value_type-in-SplitLanes.result
    (ap function_of c.in-SplitLanes.is) c.of-from.ensures c.value_type-in-SplitLanes.ensures.none

pub returns-in-MergeLanes-clause-found : goal.returns-in-MergeLanes-clause-found
returns-in-MergeLanes-clause-found c = found _ MergeLanes _ (parts_meaning c.of-from.result) c.value_type-in-MergeLanes.result
    (ap function_of c.in-MergeLanes.is) c.of-from.ensures (typed c.args.c) ((λ e. cc), (λ e. cc)) c.value_type-in-MergeLanes.ensures.found

pub returns-in-MergeLanes-clause-none : goal.returns-in-MergeLanes-clause-none
returns-in-MergeLanes-clause-none c = none _ MergeLanes _ (parts_meaning c.of-from.result) c.value_type-in-MergeLanes.result
    (ap function_of c.in-MergeLanes.is) c.of-from.ensures c.value_type-in-MergeLanes.ensures.none

pub returns-in-DynamicToVector-clause-found : goal.returns-in-DynamicToVector-clause-found
returns-in-DynamicToVector-clause-found c =
    found _ DynamicToVector _ (parts_meaning c.of-from.result) c.value_type-in-DynamicToVector.result
    (ap function_of c.in-DynamicToVector.is) c.of-from.ensures (typed c.args.c) c.if-has_fixed_form.ensures
    c.value_type-in-DynamicToVector.ensures.found

pub returns-in-DynamicToVector-clause-none : goal.returns-in-DynamicToVector-clause-none
returns-in-DynamicToVector-clause-none c = none _ DynamicToVector _ (parts_meaning c.of-from.result) c.value_type-in-DynamicToVector.result
    (ap function_of c.in-DynamicToVector.is) c.of-from.ensures c.value_type-in-DynamicToVector.ensures.none

pub returns-in-DynamicToVector-2-clause-none : goal.returns-in-DynamicToVector-2-clause-none
returns-in-DynamicToVector-2-clause-none c =
    λ t. not_fixed _ (type_parts_of c.args.c) t (ap function_of c.in-DynamicToVector.is) (c.if-has_fixed_form.ensures
    ∙ ap (λ u. u.is_dynamic && nat_lt u.lanes 256) c.of-from.ensures)

pub overflow_mul-from : goal.overflow_mul-from
overflow_mul-from c = search rules

pub overflow_mul-from-in-SplitLanes : goal.overflow_mul-from-in-SplitLanes
overflow_mul-from-in-SplitLanes c = search rules

pub overflow_mul-from-in-MergeLanes : goal.overflow_mul-from-in-MergeLanes
overflow_mul-from-in-MergeLanes c = search rules

pub returns-in-DynamicToVector-2-clause-found : goal.returns-in-DynamicToVector-2-clause-found
returns-in-DynamicToVector-2-clause-found c = search rules

pub returns-in-DynamicToVector-2-2-clause-found : goal.returns-in-DynamicToVector-2-2-clause-found
returns-in-DynamicToVector-2-2-clause-found c = search rules

pub returns-in-DynamicToVector-2-2-clause-none : goal.returns-in-DynamicToVector-2-2-clause-none
returns-in-DynamicToVector-2-2-clause-none c = search rules
