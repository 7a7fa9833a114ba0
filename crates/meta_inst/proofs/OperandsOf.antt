-- Whether the variables of operands are of a registry, operand by operand.
use Rattle.std.proofs.Common.{◌≡◌, ◌<◌, ◌+◌, ◌↔◌, IsTrue, ⊎_elim, ℕ, Bool, false, List, [], ◌∷◌, ◌++◌, length, get_or, take, drop, Some}
use Rattle.std.proofs.Common.{slice_get, sym, ap, ◌∙◌, subst, zero, suc}
use Rattle.std.specs.List.{cons_option}
use Rattle.std.proofs.lemmas.Bool.{false≢true}
use Rattle.std.proofs.lemmas.List.{take_more, take-append-drop}
use Rattle.std.proofs.lemmas.List.Elements.{filter_map-append}
use Rattle.meta_lists.proofs.Places.{get_stays, get_right, get_cases}
use Rattle.meta_typevar.specs.declared.content.TypeVarContent.{TypeVarContent}
use Rattle.meta_operands.specs.Operand.{variable_of, variables_of}
use Rattle.meta_operands.specs.declared.operand.Operand.{Operand}
use Rattle.meta_inst.specs.Operands.{AreOf}

pub are_of_both : (vars : List TypeVarContent) (xs ys : List ℕ) → AreOf vars xs → AreOf vars ys → AreOf vars (xs ++ ys)
are_of_both vars xs ys a b k n at = ⊎_elim (λ e. a k n e) (λ e. b e.0 n e.2) (get_cases xs ys k n at)

are_of_left : (vars : List TypeVarContent) (xs ys : List ℕ) → AreOf vars (xs ++ ys) → AreOf vars xs
are_of_left vars xs ys a k n at = a k n (get_stays xs ys k n at)

are_of_right : (vars : List TypeVarContent) (xs ys : List ℕ) → AreOf vars (xs ++ ys) → AreOf vars ys
are_of_right vars xs ys a k n at = a (length xs + k) n (get_right xs ys k ∙ at)

-- one operand
pub one_is_of : (vars : List TypeVarContent) (x : Operand) (n : ℕ) → variable_of x ≡ Some n
    → (AreOf vars (variables_of (x ∷ [])) ↔ (n < length vars))
one_is_of vars x n e = (
  (λ a. a 0 n (ap (λ o. slice_get (cons_option o []) 0) e)),
  (λ l k m at. subst (λ m. m < length vars) (only k m (sym (ap (λ o. slice_get (cons_option o []) k) e) ∙ at)) l),
)
  where
    only : (k m : ℕ) → slice_get (n ∷ []) k ≡ Some m → n ≡ m
    only zero m e = cc
    only (suc k) m e = absurd (cc)

more : (xs : List Operand) (i : ℕ) (x : Operand) → i < length xs → x ≡ get_or xs i x
    → variables_of (take (i + 1) xs) ≡ variables_of (take i xs) ++ variables_of (x ∷ [])
more xs i x l is = ap variables_of (take_more xs i x l ∙ ap (λ y. take i xs ++ y ∷ []) (sym is))
    ∙ filter_map-append variable_of (take i xs) (x ∷ [])

-- one more operand
pub one_more_is_of : (vars : List TypeVarContent) (xs : List Operand) (i : ℕ) (x : Operand) → i < length xs → x ≡ get_or xs i x
    → AreOf vars (variables_of (take i xs)) → AreOf vars (variables_of (x ∷ [])) → AreOf vars (variables_of (take (i + 1) xs))
one_more_is_of vars xs i x l is a b =
    subst (AreOf vars) (sym (more xs i x l is)) (are_of_both vars (variables_of (take i xs)) (variables_of (x ∷ [])) a b)

-- all operands, and one of them
pub one_of_all : (vars : List TypeVarContent) (xs : List Operand) (i : ℕ) (x : Operand) → i < length xs → x ≡ get_or xs i x
    → AreOf vars (variables_of xs) → AreOf vars (variables_of (x ∷ []))
one_of_all vars xs i x l is a =
    let split : variables_of xs ≡ variables_of (take (i + 1) xs) ++ variables_of (drop (i + 1) xs) =
    ap variables_of (sym (take-append-drop (i + 1) xs)) ∙ filter_map-append variable_of (take (i + 1) xs) (drop (i + 1) xs) in
    are_of_right vars (variables_of (take i xs)) (variables_of (x ∷ []))
    (subst (AreOf vars) (more xs i x l is) (are_of_left vars (variables_of (take (i + 1) xs)) (variables_of (drop (i + 1) xs))
    (subst (AreOf vars) split a)))

-- an answer of no to one test
pub told : (r : Bool) (P Q : Type 0) → r ≡ false → (IsTrue r ↔ P) → (Q → P) → (IsTrue false → Q) × (Q → IsTrue false)
told r P Q e h f = ((λ e. absurd (false≢true e)), (λ q. sym e ∙ h.1 (f q)))
