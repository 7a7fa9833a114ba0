-- Chains of functions, and the members from which they lead to one type.
use Rattle.std.proofs.Common.{◌≡◌, ℕ, ◌+◌, ◌<◌, ◌≤◌, ◌↔◌, List, [], ◌∷◌, All, length, drop, refl, sym, ap, subst, ◌∙◌, ◌&&◌, get_or}
use Rattle.std.proofs.Common.{add-one, Bool, true, eqb, arith}
use Rattle.std.specs.Prelude.{nat_le, nat_lt, Option, None, Some, IfSome, IfNone}
use Rattle.std.proofs.lemmas.Bool.{and_parts, eqb-true, leb-true, ltb-true}
use Rattle.std.proofs.lemmas.List.Elements.{All-nil, All-cons, All-head, All-tail}
use Rattle.std.proofs.Math.Seq.{drop-cons}
use Rattle.meta_types.specs.DerivedFunc.{function_of}
use Rattle.meta_types.specs.declared.derived_func.DerivedFunc.{DerivedFunc}
use Rattle.meta_types.specs.TypeParts.{TypeParts, IsType, number_of}
use Rattle.meta_types.specs.Function.{Function, IsFunction, Answers}
use Rattle.meta_types.proofs.AllTypes.{at_all_types}
use Rattle.meta_types.proofs.OneAnswer.{one}
use Rattle.meta_types.specs.ValueTypes.{type_parts_of}
use Rattle.meta_types.specs.declared.value_type.ValueType.{ValueType}
use Rattle.meta_typevar.specs.TypeSetParts.{TypeSetParts, IsMember, IsOnlyMember, HasOne}
use Rattle.meta_typevar.specs.Chain.{Agrees, IsFixed, IsFixedNowhere}
use Rattle.meta_typevar.specs.Chained.{functions_of}
use Rattle.meta_typevar.specs.Reaching.{Reaches}

-- numbers of types are from 0x74 to 0x17c
pub number_between : (t : TypeParts) → IsType t → (116 ≤ number_of t) × (number_of t < 381)
number_between t h =
    let r = and_parts _ _ (at_all_types (λ t. nat_le 116 (number_of t) && nat_lt (number_of t) 381) refl t h) in
    (leb-true _ _ r.0, ltb-true _ _ r.1)

pub agrees_from_reaches : (fs : List Function) (r t : TypeParts) → Reaches fs r t → Agrees fs r t
agrees_from_reaches [] r t h = h
agrees_from_reaches (f ∷ fs) r t (u, a, h) = (u, a.steps, agrees_from_reaches fs u t h)

pub reaches_from_agrees : (fs : List Function) (r t : TypeParts) → All IsFunction fs → Agrees fs r t → Reaches fs r t
reaches_from_agrees [] r t all h = h
reaches_from_agrees (f ∷ fs) r t all (u, s, h) =
    (u, record { is_function = All-head IsFunction f fs all; steps = s }, reaches_from_agrees fs u t (All-tail IsFunction f fs all) h)

pub functions_from_reaches : (fs : List Function) (r t : TypeParts) → Reaches fs r t → All IsFunction fs
functions_from_reaches [] r t h = All-nil IsFunction
functions_from_reaches (f ∷ fs) r t (u, a, h) = All-cons IsFunction f fs a.is_function (functions_from_reaches fs u t h)

-- functions lead to one type
pub one_reached : (fs : List Function) (r a b : TypeParts) → Reaches fs r a → Reaches fs r b → a ≡ b
one_reached [] r a b h k = h ∙ sym k
one_reached (f ∷ fs) r a b (u, x, h) (v, y, k) = one_reached fs v a b (subst (λ (w : TypeParts). Reaches fs w a) (one f r u v x y) h) k

-- one function more
pub reaches_step : (f : Function) (fs : List Function) (r u t : TypeParts) → Answers f r u → (Reaches (f ∷ fs) r t ↔ Reaches fs u t)
reaches_step f fs r u t a = (
  λ h. subst (λ (w : TypeParts). Reaches fs w t) (one f r h.0 u h.1 a) h.2,
  λ h. (u, a, h),
)

-- what all members reach is fixed
pub fixed_from_reaches : (s : TypeSetParts) (fs : List Function) (m t : TypeParts) → IsMember s m → Reaches fs m t
    → ((r : TypeParts) → IsMember s r → Reaches fs r t) → IsFixed s fs t
fixed_from_reaches s fs m t h k all = record {
  functions = functions_from_reaches fs m t k;
  member = m;
  inhabited = h;
  reached = λ r in_s. agrees_from_reaches fs r t (all r in_s);
  only = λ r x in_s a. one_reached fs r x t (reaches_from_agrees fs r x (functions_from_reaches fs m t k) a) (all r in_s);
}

-- what the only member reaches is fixed
pub fixed_of_one : (s : TypeSetParts) (fs : List Function) (m t : TypeParts) → HasOne s → IsMember s m → Reaches fs m t → IsFixed s fs t
fixed_of_one s fs m t one h k =
    fixed_from_reaches s fs m t h k (λ r in_s. subst (λ (w : TypeParts). Reaches fs w t) (one.only m h ∙ sym (one.only r in_s)) k)

pub reaches_fixed : (s : TypeSetParts) (fs : List Function) (t : TypeParts) → IsFixed s fs t → (r : TypeParts)
    → IsMember s r → Reaches fs r t
reaches_fixed s fs t h r in_s = reaches_from_agrees fs r t h.functions (h.reached r in_s)

-- where a member doesn't reach what another reaches, nothing is fixed
pub nowhere_from_other : (s : TypeSetParts) (fs : List Function) (m t : TypeParts) → IsMember s m → Reaches fs m t
    → (((r : TypeParts) → IsMember s r → Reaches fs r t) → ⊥) → IsFixedNowhere s fs
nowhere_from_other s fs m t h k none x f =
    let same = one_reached fs m x t (reaches_fixed s fs x f m h) k in
    none (λ r in_s. subst (λ (w : TypeParts). Reaches fs r w) same (reaches_fixed s fs x f r in_s))

-- what is left of a chain, where one more function is taken
pub chain_next : (chain : List DerivedFunc) (i : ℕ) (d : DerivedFunc) → i < length chain
    → functions_of (drop i chain) ≡ function_of (get_or chain i d) ∷ functions_of (drop (i + 1) chain)
chain_next chain i d l = ap functions_of (drop-cons chain i d l)
    ∙ λ j. function_of (get_or chain i d) ∷ functions_of (drop (sym (add-one i) j) chain)

pub step_taken : (left rest all : List Function) (f : Function) (r u t : TypeParts) → left ≡ f ∷ rest → Answers f u t
    → ((x : TypeParts) → (Reaches left u x ↔ Reaches all r x)) → (x : TypeParts) → (Reaches rest t x ↔ Reaches all r x)
step_taken left rest all f r u t e a h x =
    let here : Reaches (f ∷ rest) u x ↔ Reaches all r x = subst (λ (fs : List Function). Reaches fs u x ↔ Reaches all r x) e (h x) in
    let s = reaches_step f rest u t x a in
    (λ k. here.0 (s.1 k), λ k. s.0 (here.1 k))

-- where the next function gives nothing, the chain reaches nothing
pub step_missed : (left rest all : List Function) (f : Function) (r u : TypeParts) → left ≡ f ∷ rest
    → ((t : TypeParts) → Answers f u t → ⊥) → ((x : TypeParts) → (Reaches left u x ↔ Reaches all r x))
    → (x : TypeParts) → Reaches all r x → ⊥
step_missed left rest all f r u e none h x k =
    let there : Reaches (f ∷ rest) u x = subst (λ (fs : List Function). Reaches fs u x) e ((h x).1 k) in
    none there.0 there.1

-- what is fixed along no function is the only member
pub only_found : (s : TypeSetParts) (fs : List Function) (o : Option ValueType) → fs ≡ []
    → IfSome o (λ t. IsFixed s fs (type_parts_of t)) → IfSome o (λ t. IsOnlyMember s (type_parts_of t))
only_found s fs None e h = tt
only_found s fs (Some t) e h =
    let f : IsFixed s [] (type_parts_of t) = subst (λ (x : List Function). IsFixed s x (type_parts_of t)) e h in
    record { member = subst (IsMember s) (sym (f.reached f.member f.inhabited)) f.inhabited; only = λ u m. sym (f.reached u m) }

pub only_none : (s : TypeSetParts) (fs : List Function) (o : Option ValueType) → fs ≡ []
    → IfNone o (IsFixedNowhere s fs) → IfNone o (HasOne s → ⊥)
only_none s fs None e h = λ one. h one.one (subst (λ (x : List Function). IsFixed s x one.one) (sym e) (record {
  functions = All-nil IsFunction;
  member = one.one;
  inhabited = one.member;
  reached = λ r m. sym (one.only r m);
  only = λ r x m a. a ∙ one.only r m;
}))
only_none s fs (Some t) e h = tt

-- what is fixed along no function is the only member, so a set without one has nothing fixed
pub none_of_several : (s : TypeSetParts) → (HasOne s → ⊥) → IsFixedNowhere s []
none_of_several s several t f =
    several (record { one = f.member; member = f.inhabited; only = λ u m. sym (f.reached u m) ∙ f.reached f.member f.inhabited })

-- the first member of a set with one
pub first_of_one : (s : TypeSetParts) (o : Option ValueType) → HasOne s → IfSome o (λ r. IsMember s (type_parts_of r))
    → IfSome o (λ t. IsFixed s [] (type_parts_of t))
first_of_one s None one h = tt
first_of_one s (Some r) one h = fixed_of_one s [] (type_parts_of r) (type_parts_of r) one h refl

pub first_of_none : (s : TypeSetParts) (o : Option ValueType) → IfNone o ((r : TypeParts) → IsMember s r → ⊥)
    → IfNone o (IsFixedNowhere s [])
first_of_none s None h = λ t f. h f.member f.inhabited
first_of_none s (Some r) h = tt

-- a chain without a function
pub no_functions : (chain : List DerivedFunc) (empty : Bool) → empty ≡ eqb (length chain) 0 → empty ≡ true → functions_of chain ≡ []
no_functions [] empty e t = refl
no_functions (d ∷ ds) empty e t = absurd (no_suc (eqb-true _ _ (sym e ∙ t)))
  where
    no_suc : length (d ∷ ds) ≡ 0 → ⊥
    no_suc h = omega (arith, h)

pub along_none : (s : TypeSetParts) (fs : List Function) (o : Option ValueType) → fs ≡ []
    → IfSome o (λ t. IsFixed s [] (type_parts_of t)) → IfSome o (λ t. IsFixed s fs (type_parts_of t))
along_none s fs o e h = subst (λ (gs : List Function). IfSome o (λ t. IsFixed s gs (type_parts_of t))) (sym e) h

pub nowhere_along_none : (s : TypeSetParts) (fs : List Function) (o : Option ValueType) → fs ≡ []
    → IfNone o (IsFixedNowhere s []) → IfNone o (IsFixedNowhere s fs)
nowhere_along_none s fs o e h = subst (λ (gs : List Function). IfNone o (IsFixedNowhere s gs)) (sym e) h
