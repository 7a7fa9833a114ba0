-- The derived functions, one by one. Each other proof that tries them all does it by a lemma here.
--     each_func, each_function     a test that passes at all of them passes at each
--     same_func                    the functions of the program are told apart by what they mean
--     func_cases                   two of them are the same or not
--     relation_or_not              each is a relation or a function
--     camel_names_differ           they are told apart by their names in camel case
use Rattle.std.proofs.Common.{◌≡◌, ◌≢◌, ◌⊎◌, inl, inr, ℕ, ◌<◌, ◌≤◌, ◌==◌, ◌||◌, not, nat_lt, cond, Bool, true, false, List, length, get_or}
use Rattle.std.proofs.Common.{slice_get, None, Some, refl, sym, ap, ◌∙◌, subst, arith, eqb}
use Rattle.std.specs.List.{list_all, position, position_or_len}
use Rattle.std.specs.Cmp.Lexicographic.{pointwise, bytes_decides}
use Rattle.std.proofs.lemmas.Bool.{eqb-true, eqb-false, ltb-false, or_cases, not-true, false≢true}
use Rattle.std.proofs.lemmas.Option.{same_Some, slice_get_within, get_or_from_slice_get}
use Rattle.std.proofs.lemmas.List.Quantifiers.{position-Some}
use Rattle.std.proofs.lemmas.List.Sums.{AllPass-from_list_all, fails_before_first}
use Rattle.meta_types.specs.Function.{Function, LaneOf, AsTruthy, HalfWidth, DoubleWidth, SplitLanes, MergeLanes, DynamicToVector, Narrower}
use Rattle.meta_types.specs.Function.{Wider, IsRelation, IsFunction}
use Rattle.meta_types.specs.DerivedFunc.{function_of, camel_function_name}
use Rattle.meta_types.specs.declared.derived_func.TheConstants.{DERIVED_FUNCS}
use Rattle.meta_types.specs.declared.derived_func.DerivedFunc.{DerivedFunc}
use Rattle.meta_types.specs.declared.derived_func.DerivedFunc.TheVariants.{LaneOf as LaneOfFunc, AsTruthy as AsTruthyFunc}
use Rattle.meta_types.specs.declared.derived_func.DerivedFunc.TheVariants.{HalfWidth as HalfWidthFunc, DoubleWidth as DoubleWidthFunc}
use Rattle.meta_types.specs.declared.derived_func.DerivedFunc.TheVariants.{SplitLanes as SplitLanesFunc, MergeLanes as MergeLanesFunc}
use Rattle.meta_types.specs.declared.derived_func.DerivedFunc.TheVariants.{DynamicToVector as DynamicToVectorFunc, Narrower as NarrowerFunc}
use Rattle.meta_types.specs.declared.derived_func.DerivedFunc.TheVariants.{Wider as WiderFunc}

-- the place of a function among all of them
abbrev place : DerivedFunc → ℕ
place LaneOfFunc = 0
place AsTruthyFunc = 1
place HalfWidthFunc = 2
place DoubleWidthFunc = 3
place SplitLanesFunc = 4
place MergeLanesFunc = 5
place DynamicToVectorFunc = 6
place NarrowerFunc = 7
place WiderFunc = 8

-- it stands there
at_place : (f : DerivedFunc) → slice_get DERIVED_FUNCS (place f) ≡ Some f
at_place LaneOfFunc = refl
at_place f = refl

-- the function of the program that means it
abbrev func_of : Function → DerivedFunc
func_of LaneOf = LaneOfFunc
func_of AsTruthy = AsTruthyFunc
func_of HalfWidth = HalfWidthFunc
func_of DoubleWidth = DoubleWidthFunc
func_of SplitLanes = SplitLanesFunc
func_of MergeLanes = MergeLanesFunc
func_of DynamicToVector = DynamicToVectorFunc
func_of Narrower = NarrowerFunc
func_of Wider = WiderFunc

meant : (f : Function) → function_of (func_of f) ≡ f
meant LaneOf = refl
meant f = refl

back : (f : DerivedFunc) → func_of (function_of f) ≡ f
back LaneOfFunc = refl
back f = refl

-- a test that passes at all of them passes at each
pub each_func : (p : DerivedFunc → Bool) → list_all p DERIVED_FUNCS ≡ true → (f : DerivedFunc) → p f ≡ true
each_func p all f =
    let passes = AllPass-from_list_all p DERIVED_FUNCS all (place f) f (slice_get_within DERIVED_FUNCS (place f) f (at_place f)) in
    subst (λ g. p g ≡ true) (get_or_from_slice_get DERIVED_FUNCS (place f) f f (at_place f)) passes

pub each_function : (p : Function → Bool) → list_all (λ f. p (function_of f)) DERIVED_FUNCS ≡ true → (f : Function) → p f ≡ true
each_function p all f = subst (λ g. p g ≡ true) (meant f) (each_func (λ g. p (function_of g)) all (func_of f))

-- two that mean the same are the same
pub same_func : (f g : DerivedFunc) → function_of f ≡ function_of g → f ≡ g
same_func f g e = sym (back f) ∙ ap func_of e ∙ back g

same_place : (f g : DerivedFunc) → place f ≡ place g → f ≡ g
same_place f g e = same_Some f g (sym (at_place f) ∙ ap (slice_get DERIVED_FUNCS) e ∙ at_place g)

pub func_cases : (f g : DerivedFunc) → (f ≡ g) ⊎ (f ≢ g)
func_cases f g = elim (eqb (place f) (place g)) as (λ b. eqb (place f) (place g) ≡ b → (f ≡ g) ⊎ (f ≢ g)) [
  | true ↦ λ e. inl (same_place f g (eqb-true _ _ e))
  | false ↦ λ e. inr (λ h. eqb-false _ _ e (ap place h))
] refl

-- ---- relations

-- each is a relation or a function
pub relation_or_not : (f : Function) → IsRelation f ⊎ IsFunction f
relation_or_not Narrower = inl (inl refl)
relation_or_not Wider = inl (inr refl)
relation_or_not f = inr ((λ e. cc), (λ e. cc))

-- and no relation is a function
pub no_function : (f : Function) → IsRelation f → IsFunction f → ⊥
no_function f (inl e) h = h.0 e
no_function f (inr e) h = h.1 e

-- ---- names in camel case

-- whether two of them are the same, or have different names
abbrev told_apart : Function → Function → Bool
told_apart f g = not (pointwise ◌==◌ (camel_function_name f) (camel_function_name g)) || (place (func_of f) == place (func_of g))

pub camel_names_differ : (f g : Function) → camel_function_name f ≡ camel_function_name g → f ≡ g
camel_names_differ f g e = by_case (or_cases (not (pointwise ◌==◌ (camel_function_name f) (camel_function_name g)))
    (place (func_of f) == place (func_of g))
    (each_function (told_apart f) (each_function (λ h. list_all (λ k. told_apart h (function_of k)) DERIVED_FUNCS) refl f) g))
  where
    by_case : (not (pointwise ◌==◌ (camel_function_name f) (camel_function_name g)) ≡ true)
        ⊎ ((place (func_of f) == place (func_of g)) ≡ true) → f ≡ g
    by_case (inl differ) =
        absurd (false≢true (sym (not-true _ differ) ∙ (bytes_decides (camel_function_name f) (camel_function_name g)).1 e))
    by_case (inr same) = sym (meant f) ∙ ap function_of (same_place (func_of f) (func_of g) (eqb-true _ _ same)) ∙ meant g

-- whether it is the function of this name
abbrev pub has_name : List ℕ → DerivedFunc → Bool
has_name name f = pointwise ◌==◌ (camel_function_name (function_of f)) name

-- what was found by its name is one of them, and has it
pub name_within : (name : List ℕ) (i : ℕ) → position (has_name name) DERIVED_FUNCS ≡ Some i → i < length DERIVED_FUNCS
name_within name i e = (position-Some (has_name name) DERIVED_FUNCS i LaneOfFunc e).0

pub name_found : (name : List ℕ) (i : ℕ) (f d : DerivedFunc) → position (has_name name) DERIVED_FUNCS ≡ Some i
    → f ≡ get_or DERIVED_FUNCS i d → camel_function_name (function_of f) ≡ name
name_found name i f d e is =
    let found = position-Some (has_name name) DERIVED_FUNCS i d e in
    (bytes_decides (camel_function_name (function_of f)) name).0 (ap (has_name name) is ∙ found.1)

-- where no element passes a test, one that stands there doesn't
none_passes : {X : Type 0} (p : X → Bool) (xs : List X) → position p xs ≡ None → length xs ≤ position_or_len p xs
none_passes p xs e = by_test (nat_lt (position_or_len p xs) (length xs)) refl e
  where
    by_test : (b : Bool) → nat_lt (position_or_len p xs) (length xs) ≡ b → cond b (Some (position_or_len p xs)) None ≡ None
        → length xs ≤ position_or_len p xs
    by_test true is none = absurd (cc)
    by_test false is none = ltb-false (position_or_len p xs) (length xs) is

fails_there : {X : Type 0} (p : X → Bool) (xs : List X) (k : ℕ) (x : X) → position p xs ≡ None → slice_get xs k ≡ Some x → p x ≡ false
fails_there p xs k x e at =
    let past = none_passes p xs e in
    let inside = slice_get_within xs k x at in
    subst (λ y. p y ≡ false) (get_or_from_slice_get xs k x x at) (fails_before_first p xs k x (omega (arith, past, inside)))

-- and where nothing was found none has the name
pub name_missing : (name : List ℕ) → position (has_name name) DERIVED_FUNCS ≡ None → (f : Function) → camel_function_name f ≢ name
name_missing name e f named =
    false≢true (sym (fails_there (has_name name) DERIVED_FUNCS (place (func_of f)) (func_of f) e (at_place (func_of f)))
    ∙ (bytes_decides (camel_function_name (function_of (func_of f))) name).1 (ap camel_function_name (meant f) ∙ named))
