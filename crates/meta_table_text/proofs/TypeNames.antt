-- The type that has a number, among all types.
use Rattle.std.proofs.Common.{◌≡◌, ◌≢◌, ℕ, ◌==◌, ◌↔◌, Bool, true, false, cond, List, [], ◌∷◌, Contains, inl, inr, ◌⊎◌, Option, Some, None}
use Rattle.std.proofs.Common.{refl, sym, ap, ◌∙◌, subst}
use Rattle.std.specs.List.{find}
use Rattle.std.proofs.lemmas.Bool.{eqb-true, eq-eqb, false≢true}
use Rattle.meta_lists.proofs.Contained.{contains_first, contains_after, contains_cases, contains_none}
use Rattle.meta_types.specs.TypeParts.{TypeParts, IsType, number_of}
use Rattle.meta_types.proofs.Numbers.{one_number}

-- what is found passes the test, and is contained
pub find_holds : {X : Type 0} (test : X → Bool) (xs : List X) (y : X) → find test xs ≡ Some y → (test y ≡ true) × Contains xs y
find_holds test [] y e = absurd (cc)
find_holds {X} test (x ∷ xs) y e = by_test (test x) refl e (find_holds test xs y)
  where
    by_test : (b : Bool) → test x ≡ b → cond b (Some x) (find test xs) ≡ Some y → (find test xs ≡ Some y → (test y ≡ true) × Contains xs y)
        → (test y ≡ true) × Contains (x ∷ xs) y
    by_test true is e below =
        let same : x ≡ y = cc in
        (subst (λ z. test z ≡ true) same is, subst (Contains (x ∷ xs)) same (contains_first x xs))
    by_test false is e below = let (passes, among) = below e in (passes, contains_after x y xs among)

-- where nothing is found, nothing that is contained passes
pub find_none : {X : Type 0} (test : X → Bool) (xs : List X) (y : X) → find test xs ≡ None → Contains xs y → test y ≡ false
find_none test [] y e among = absurd (contains_none y among)
find_none {X} test (x ∷ xs) y e among = by_test (test x) refl e (contains_cases x y xs among) (find_none test xs y)
  where
    by_test : (b : Bool) → test x ≡ b → cond b (Some x) (find test xs) ≡ None → (x ≡ y) ⊎ Contains xs y
        → (find test xs ≡ None → Contains xs y → test y ≡ false) → test y ≡ false
    by_test true is e place below = absurd (cc)
    by_test false is e (inl same) below = subst (λ z. test z ≡ false) same is
    by_test false is e (inr after) below = below e after

-- in a list of all types, the type with a number is found by it
module _ (types : List TypeParts) (listed : (t : TypeParts) → (IsType t ↔ Contains types t)) (n : ℕ) where
  abbrev pub by_number : Option TypeParts
  by_number = find (λ t. number_of t == n) types

  pub numbered : (t : TypeParts) → IsType t → number_of t ≡ n → by_number ≡ Some t
  numbered t is number = by_case by_number refl
    where
      by_case : (found : Option TypeParts) → by_number ≡ found → found ≡ Some t
      by_case None e =
          absurd (false≢true (sym (find_none (λ t. number_of t == n) types t e ((listed t).0 is)) ∙ eq-eqb (number_of t) n number))
      by_case (Some y) e =
          let (passes, among) = find_holds (λ t. number_of t == n) types y e in
          ap (λ s. Some s) (one_number y t ((listed y).1 among) is (eqb-true (number_of y) n passes ∙ sym number))

  pub unnumbered : ((t : TypeParts) → IsType t → number_of t ≢ n) → by_number ≡ None
  unnumbered none = by_case by_number refl
    where
      by_case : (found : Option TypeParts) → by_number ≡ found → found ≡ None
      by_case None e = refl
      by_case (Some y) e =
          let (passes, among) = find_holds (λ t. number_of t == n) types y e in
          absurd (none y ((listed y).1 among) (eqb-true (number_of y) n passes))
