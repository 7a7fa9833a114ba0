-- From a type at each place to one choice for every root: the type at the first place of that root.
use Rattle.std.proofs.Common.{◌≡◌, ◌⊎◌, ℕ, zero, suc, ◌==◌, true, false, cond, List, [], ◌∷◌, Some, slice_get, refl, ap, ◌∙◌, inl, inr}
use Rattle.std.proofs.lemmas.Bool.{cases_Bool, eqb-true, eq-eqb, cond-true, cond-false}
use Rattle.std.proofs.lemmas.Option.{same_Some}
use Rattle.meta_types.specs.TypeParts.{TypeParts, IntKind, scalar}
use Rattle.meta_typevar.specs.Variable.{Variable}

-- a type for each place at which the lists have an operand and its type
abbrev pub AskedTypes : List Variable → List TypeParts → Type 0
AskedTypes ws ts = (k : ℕ) (w : Variable) (t : TypeParts) → slice_get ws k ≡ Some w → slice_get ts k ≡ Some t → TypeParts

-- two places of one root ask for the same type
abbrev pub AskSame : (ws : List Variable) (ts : List TypeParts) → AskedTypes ws ts → Type 0
AskSame ws ts asked = (j k : ℕ) (v w : Variable) (s t : TypeParts) (at_j : slice_get ws j ≡ Some v)
    (at_k : slice_get ws k ≡ Some w) (s_at : slice_get ts j ≡ Some s) (t_at : slice_get ts k ≡ Some t)
    → v.root ≡ w.root → asked j v s at_j s_at ≡ asked k w t at_k t_at

-- the type that is asked for at the first place whose operand has the root r
pub choose : (ws : List Variable) (ts : List TypeParts) → AskedTypes ws ts → ℕ → TypeParts
choose [] ts asked r = scalar IntKind 8
choose (w ∷ ws) [] asked r = scalar IntKind 8
choose (w ∷ ws) (t ∷ ts) asked r = cond (w.root == r) (asked 0 w t refl refl)
    (choose ws ts (λ k v s at_k s_at. asked (suc k) v s at_k s_at) r)

-- what is chosen for a root is what is asked for at each place of it
pub chosen : (ws : List Variable) (ts : List TypeParts) (asked : AskedTypes ws ts) → AskSame ws ts asked
    → (k : ℕ) (w : Variable) (t : TypeParts) (at_k : slice_get ws k ≡ Some w) (t_at : slice_get ts k ≡ Some t)
    → choose ws ts asked w.root ≡ asked k w t at_k t_at
unfolding choose
chosen [] ts asked same k w t at_k t_at = absurd (cc)
chosen (v ∷ ws) [] asked same k w t at_k t_at = absurd (cc)
chosen (v ∷ ws) (s ∷ ts) asked same zero w t at_k t_at =
    let root : v.root ≡ w.root = ap (λ (x : Variable). x.root) (same_Some v w at_k) in
    cond-true (v.root == w.root) _ _ (eq-eqb v.root w.root root) ∙ same 0 0 v w s t refl at_k refl t_at root
chosen (v ∷ ws) (s ∷ ts) asked same (suc k) w t at_k t_at =
    by_test (cases_Bool (v.root == w.root)) (chosen ws ts (λ j x y at_j y_at. asked (suc j) x y at_j y_at)
    (λ j l. same (suc j) (suc l)) k w t at_k t_at)
  where
    -- the first place has the root, or the rest decides
    by_test : ((v.root == w.root) ≡ true) ⊎ ((v.root == w.root) ≡ false)
        → choose ws ts (λ j x y at_j y_at. asked (suc j) x y at_j y_at) w.root ≡ asked (suc k) w t at_k t_at
        → cond (v.root == w.root) (asked 0 v s refl refl)
        (choose ws ts (λ j x y at_j y_at. asked (suc j) x y at_j y_at) w.root) ≡ asked (suc k) w t at_k t_at
    by_test (inl e) below = cond-true (v.root == w.root) _ _ e ∙ same 0 (suc k) v w s t refl at_k refl t_at (eqb-true v.root w.root e)
    by_test (inr e) below = cond-false (v.root == w.root) _ _ e ∙ below
