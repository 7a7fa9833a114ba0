-- What `apply` and `relates` answer, from what they find of parts.
use Rattle.std.proofs.Common.{IfNone, ap₂, arith, ◌≡◌, ◌≢◌, ◌↔◌, Bool, IsTrue, Option, Some, None, IfSome, sym, ◌∙◌, subst}
use Rattle.std.proofs.lemmas.Grind.{common_steps}
use Rattle.std.proofs.lemmas.Bool.{false≢true}
use Rattle.std.specs.Option.{option_eq}
use Rattle.meta_types.specs.TypeParts.{TypeParts, IsType}
use Rattle.meta_types.specs.Function.{Function, Narrower, Wider, IsFunction, relates, StepsTypes, Answers}
use Rattle.meta_types.specs.ValueTypes.{type_parts_of}
use Rattle.meta_types.specs.DerivedFunc.{function_of}
use Rattle.meta_types.specs.declared.value_type.ValueType.{ValueType}
use Rattle.meta_types.specs.declared.derived_func.DerivedFunc.{DerivedFunc}
use Rattle.meta_types.specs.declared.derived_func.DerivedFunc.TheVariants.{Narrower as NarrowerFunc, Wider as WiderFunc}
use Rattle.meta_types.specs.contracts.value_type.ValueTypePartialEq.TheImpl.{eq-value}
use Rattle.meta_types.proofs.Functions.{same_func}
use Rattle.meta_types.proofs.OneAnswer.{one}
use Rattle.meta_types.proofs.Values.{one_value}
use Rattle.meta_types.proofs.EqualTypes.{same_type, equal_type}

-- a test of the relation is one of the step, between types
tests_step : (f : Function) (u t : TypeParts) (r : Bool) → IsType u → IsType t → r ≡ relates f u t → (IsTrue r ↔ StepsTypes f u t)
tests_step f u t r from to e = ((λ h. record { from = from; to = to; relates = subst IsTrue e h }), λ h. subst IsTrue (sym e) h.relates)

-- the test of two parts is that of the relation
pub tests_narrower : (f : Function) (u t v s : TypeParts) (r : Bool) → f ≡ Narrower → v ≡ u → s ≡ t → IsType u → IsType t
    → r ≡ relates Narrower v s → (IsTrue r ↔ StepsTypes f u t)
tests_narrower f u t v s r is same_u same_t from to e =
    subst (λ g. IsTrue r ↔ StepsTypes g u t) (sym is) (tests_step Narrower u t r from to (e ∙ ap₂ (relates Narrower) same_u same_t))

-- the wider one is that of which the other is narrower
turned : (u t : TypeParts) → relates Narrower t u ≡ relates Wider u t
turned u t = grind (arith, common_steps)

-- so is the test of the two the other way round
pub tests_wider : (f : Function) (u t v s : TypeParts) (r : Bool) → f ≡ Wider → v ≡ u → s ≡ t → IsType u → IsType t
    → r ≡ relates Narrower s v → (IsTrue r ↔ StepsTypes f u t)
tests_wider f u t v s r is same_u same_t from to e =
    subst (λ g. IsTrue r ↔ StepsTypes g u t) (sym is) (tests_step Wider u t r from to (e ∙ ap₂ (relates Narrower) same_t same_u
    ∙ turned u t))

-- the test of the type that was found is that of the step
pub tests_answer : (f : Function) (c t : ValueType) (o : Option ValueType) (r : Bool) → IsFunction f
    → IfSome o (λ a. Answers f (type_parts_of c) (type_parts_of a))
    → IfNone o ((x : TypeParts) → ¬ Answers f (type_parts_of c) x)
    → r ≡ option_eq eq-value.it o (Some t)
    → (IsTrue r ↔ StepsTypes f (type_parts_of c) (type_parts_of t))
tests_answer f c t (Some a) r function found none e = (
  (λ h. (subst (λ x. Answers f (type_parts_of c) (type_parts_of x)) (same_type a t (sym e ∙ h)) found).steps),
  (λ h. e ∙ equal_type a t (one_value a t (one f (type_parts_of c) (type_parts_of a) (type_parts_of t) found
      (record { is_function = function; steps = h })))),
)
tests_answer f c t None r function found none e = (
  (λ h. absurd (false≢true (sym e ∙ h))),
  (λ h. absurd (none (type_parts_of t) (record { is_function = function; steps = h }))),
)

-- what is no relation is a function
pub no_relation : (f : DerivedFunc) → f ≢ NarrowerFunc → f ≢ WiderFunc → IsFunction (function_of f)
no_relation f n w = ((λ e. n (same_func f NarrowerFunc e)), (λ e. w (same_func f WiderFunc e)))
