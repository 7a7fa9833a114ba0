-- Whether two symbols are the same, and whether one is among others.
use Rattle.std.proofs.Common.{◌≡◌, ◌∙◌, ℕ, zero, suc, ◌==◌, ◌||◌, Bool, true, false, List, [], ◌∷◌, ◌++◌, slice_get, refl, sym, ap, cond}
use Rattle.std.proofs.Common.{inl, inr}
use Rattle.std.specs.Prelude.{Some, ◌⊎◌}
use Rattle.std.specs.List.{list_any}
use Rattle.std.specs.Cmp.Lexicographic.{pointwise}
use Rattle.std.proofs.lemmas.Bool.{and_parts, and_from, eqb-true, eq-eqb, false≢true}
use Rattle.meta_types.specs.Function.{Function, LaneOf, AsTruthy, HalfWidth, DoubleWidth, SplitLanes, MergeLanes, DynamicToVector, Narrower}
use Rattle.meta_types.specs.Function.{Wider}
use Rattle.meta_types.proofs.AllTypes.{same_parts_true, same_parts_self}
use Rattle.meta_file_types.specs.Meant.{Root, Declared, Plain}
use Rattle.meta_file_types.specs.Symbols.{Symbol, function_number, same_function, same_root, same_symbol, with_symbol}

-- ---- functions

-- the function with a number
function_by : ℕ → Function
function_by n =
    cond (n == 0) LaneOf
    (cond (n == 1) AsTruthy
    (cond (n == 2) HalfWidth
    (cond (n == 3) DoubleWidth
    (cond (n == 4) SplitLanes
    (cond (n == 5) MergeLanes
    (cond (n == 6) DynamicToVector
    (cond (n == 7) Narrower Wider)))))))

function_back : (f : Function) → function_by (function_number f) ≡ f
unfolding function_by
function_back LaneOf = refl
function_back AsTruthy = refl
function_back HalfWidth = refl
function_back DoubleWidth = refl
function_back SplitLanes = refl
function_back MergeLanes = refl
function_back DynamicToVector = refl
function_back Narrower = refl
function_back Wider = refl

same_function_true : (f g : Function) → same_function f g ≡ true → f ≡ g
same_function_true f g e =
    sym (function_back f) ∙ (ap function_by (eqb-true (function_number f) (function_number g) e) ∙ function_back g)

same_functions_true : (fs gs : List Function) → pointwise same_function fs gs ≡ true → fs ≡ gs
same_functions_true [] [] e = refl
same_functions_true [] (g ∷ gs) e = absurd (cc)
same_functions_true (f ∷ fs) [] e = absurd (cc)
same_functions_true (f ∷ fs) (g ∷ gs) e =
    let both = and_parts (same_function f g) (pointwise same_function fs gs) e in
    let first = same_function_true f g both.0 in
    let rest = same_functions_true fs gs both.1 in
    λ i. first i ∷ rest i

same_functions_self : (fs : List Function) → pointwise same_function fs fs ≡ true
same_functions_self [] = refl
same_functions_self (f ∷ fs) =
    and_from (same_function f f) (pointwise same_function fs fs) (eq-eqb (function_number f) (function_number f) refl)
    (same_functions_self fs)

-- ---- roots

same_root_true : (a b : Root) → same_root a b ≡ true → a ≡ b
same_root_true (Declared k) (Declared l) e = ap Declared (eqb-true k l e)
same_root_true (Declared k) (Plain u) e = absurd (cc)
same_root_true (Plain t) (Declared l) e = absurd (cc)
same_root_true (Plain t) (Plain u) e = ap Plain (same_parts_true t u e)

same_root_self : (a : Root) → same_root a a ≡ true
same_root_self (Declared k) = eq-eqb k k refl
same_root_self (Plain t) = same_parts_self t

-- ---- symbols

pub same_symbol_true : (s t : Symbol) → same_symbol s t ≡ true → s ≡ t
same_symbol_true s t e =
    let both = and_parts (same_root s.root t.root) (pointwise same_function s.functions t.functions) e in
    let root = same_root_true s.root t.root both.0 in
    let functions = same_functions_true s.functions t.functions both.1 in
    λ i. record { root = root i; functions = functions i }

same_symbol_self : (s : Symbol) → same_symbol s s ≡ true
same_symbol_self s =
    and_from (same_root s.root s.root) (pointwise same_function s.functions s.functions) (same_root_self s.root)
    (same_functions_self s.functions)

-- where the test of one among others passes, it stands at a place
pub among_at : (s : Symbol) (symbols : List Symbol) → list_any (same_symbol s) symbols ≡ true → (n : ℕ) × (slice_get symbols n ≡ Some s)
among_at s [] e = absurd (cc)
among_at s (x ∷ xs) e = by (same_symbol s x) refl e (λ e. among_at s xs e)
  where
    by : (b : Bool) → same_symbol s x ≡ b → (b || list_any (same_symbol s) xs) ≡ true
        → (list_any (same_symbol s) xs ≡ true → (n : ℕ) × (slice_get xs n ≡ Some s)) → (n : ℕ) × (slice_get (x ∷ xs) n ≡ Some s)
    by true is e more = (0, ap (λ (t : Symbol). Some t) (sym (same_symbol_true s x is)))
    by false is e more = let h = more e in (suc h.0, h.1)

-- and where it stands at a place, the test passes
pub at_among : (s : Symbol) (symbols : List Symbol) (n : ℕ) → slice_get symbols n ≡ Some s → list_any (same_symbol s) symbols ≡ true
at_among s [] n at = absurd (cc)
at_among s (x ∷ xs) zero at =
    let same : x ≡ s = cc in
    ap (λ (b : Bool). b || list_any (same_symbol s) xs) (ap (same_symbol s) same ∙ same_symbol_self s)
at_among s (x ∷ xs) (suc n) at = by (same_symbol s x) (at_among s xs n at)
  where
    by : (b : Bool) → list_any (same_symbol s) xs ≡ true → (b || list_any (same_symbol s) xs) ≡ true
    by true h = refl
    by false h = h

-- it stands at a place, or at none
pub known_or_new : (s : Symbol) (symbols : List Symbol)
    → ((n : ℕ) × (slice_get symbols n ≡ Some s)) ⊎ ((n : ℕ) → slice_get symbols n ≡ Some s → ⊥)
known_or_new s symbols = by (list_any (same_symbol s) symbols) refl
  where
    by : (b : Bool) → list_any (same_symbol s) symbols ≡ b
        → ((n : ℕ) × (slice_get symbols n ≡ Some s)) ⊎ ((n : ℕ) → slice_get symbols n ≡ Some s → ⊥)
    by true e = inl (among_at s symbols e)
    by false e = inr (λ n at. false≢true (sym e ∙ at_among s symbols n at))

pub with_known : (s : Symbol) (symbols : List Symbol) (n : ℕ) → slice_get symbols n ≡ Some s → with_symbol symbols s ≡ symbols
with_known s symbols n at = ap (λ (b : Bool). cond b symbols (symbols ++ s ∷ [])) (at_among s symbols n at)

pub with_new : (s : Symbol) (symbols : List Symbol) → ((n : ℕ) → slice_get symbols n ≡ Some s → ⊥)
    → with_symbol symbols s ≡ symbols ++ s ∷ []
with_new s symbols new = by (list_any (same_symbol s) symbols) refl
  where
    by : (b : Bool) → list_any (same_symbol s) symbols ≡ b → cond b symbols (symbols ++ s ∷ []) ≡ symbols ++ s ∷ []
    by true e = let h = among_at s symbols e in absurd (new h.0 h.1)
    by false e = refl
