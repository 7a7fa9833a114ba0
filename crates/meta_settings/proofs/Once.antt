-- The numbers, each once.
use Rattle.std.proofs.Common.{◌≡◌, ◌≢◌, ◌<◌, ⊎_elim, ℕ, zero, suc, true, false, not, cond, eqb, List, [], ◌∷◌, length, slice_index_or}
use Rattle.std.proofs.Common.{Contains, refl, sym, ◌∙◌, subst, arith}
use Rattle.std.specs.List.{filter}
use Rattle.std.proofs.lemmas.Bool.{cases_eq, false≢true}
use Rattle.std.proofs.lemmas.Bool.Decides.{Decides-eqb}
use Rattle.std.proofs.lemmas.List.Kept.{AllPairs-filter}
use Rattle.meta_lists.proofs.Contained.{contains_after, contains_cases, contains_first, contains_none}
use Rattle.meta_settings.specs.TurnedOn.{firsts}
use Rattle.meta_settings.specs.Laws.{IsEachOnce}

kept_from : (n y : ℕ) (xs : List ℕ) → Contains (filter (λ m. not (eqb m n)) xs) y → Contains xs y × (y ≢ n)
kept_from n y [] c = absurd (contains_none y c)
kept_from n y (x ∷ xs) c =
    elim (eqb x n) as (λ b. eqb x n ≡ b → Contains (cond (not b) (x ∷ filter (λ m. not (eqb m n)) xs) (filter (λ m. not (eqb m n)) xs)) y
    → Contains (x ∷ xs) y × (y ≢ n)) [
      | true ↦ λ e c. let (at, differs) = kept_from n y xs c in (contains_after x y xs at, differs)
      | false ↦ λ e c.
          ⊎_elim
          (λ same. (
            subst (λ z. Contains (x ∷ xs) z) same (contains_first x xs),
            λ is. false≢true (sym e ∙ (Decides-eqb x n).1 (same ∙ is)),
          ))
          (λ later. let (at, differs) = kept_from n y xs later in (contains_after x y xs at, differs))
          (contains_cases x y (filter (λ m. not (eqb m n)) xs) c)
    ] refl c

kept_to : (n y : ℕ) (xs : List ℕ) → y ≢ n → Contains xs y → Contains (filter (λ m. not (eqb m n)) xs) y
kept_to n y [] differs c = absurd (contains_none y c)
kept_to n y (x ∷ xs) differs c =
    elim (eqb x n) as (λ b. eqb x n ≡ b → Contains (cond (not b) (x ∷ filter (λ m. not (eqb m n)) xs) (filter (λ m. not (eqb m n)) xs)) y) [
      | true ↦ λ e. ⊎_elim (λ same. absurd (differs (sym same ∙ (Decides-eqb x n).0 e))) (λ later. kept_to n y xs differs later)
          (contains_cases x y xs c)
      | false ↦ λ e.
          ⊎_elim
          (λ same. subst (λ z. Contains (x ∷ filter (λ m. not (eqb m n)) xs) z) same (contains_first x (filter (λ m. not (eqb m n)) xs)))
          (λ later. contains_after x y (filter (λ m. not (eqb m n)) xs) (kept_to n y xs differs later))
          (contains_cases x y xs c)
    ] refl

pub firsts_from : (xs : List ℕ) (y : ℕ) → Contains (firsts xs) y → Contains xs y
firsts_from [] y c = absurd (contains_none y c)
firsts_from (x ∷ xs) y c =
    ⊎_elim
    (λ same. subst (λ z. Contains (x ∷ xs) z) same (contains_first x xs))
    (λ later. contains_after x y xs (firsts_from xs y (kept_from x y (firsts xs) later).0))
    (contains_cases x y (filter (λ m. not (eqb m x)) (firsts xs)) c)

pub firsts_to : (xs : List ℕ) (y : ℕ) → Contains xs y → Contains (firsts xs) y
firsts_to [] y c = absurd (contains_none y c)
firsts_to (x ∷ xs) y c =
    ⊎_elim
    (λ same. subst (λ z. Contains (firsts (x ∷ xs)) z) same (contains_first x (filter (λ m. not (eqb m x)) (firsts xs))))
    (λ later.
    ⊎_elim
    (λ same. subst (λ z. Contains (firsts (x ∷ xs)) z) (sym same) (contains_first x (filter (λ m. not (eqb m x)) (firsts xs))))
    (λ differs. contains_after x y (filter (λ m. not (eqb m x)) (firsts xs)) (kept_to x y (firsts xs) differs (firsts_to xs y later)))
    (cases_eq y x))
    (contains_cases x y xs c)

-- what stands at a place is an element
stands : (ys : List ℕ) (j d : ℕ) → j < length ys → Contains ys (slice_index_or ys j d)
stands ys j d l = (j, l, same ys j d l)
  where
    same : (ys : List ℕ) (j d : ℕ) → j < length ys → slice_index_or ys j (slice_index_or ys j d) ≡ slice_index_or ys j d
    same [] j d l = absurd (omega (arith, l))
    same (y ∷ ys) zero d l = refl
    same (y ∷ ys) (suc j) d l = same ys j d (omega (arith, l))

once_more : (x : ℕ) (xs : List ℕ) → IsEachOnce (firsts xs) → IsEachOnce (firsts (x ∷ xs))
once_more x xs before = pairs
  where
    once : IsEachOnce (filter (λ m. not (eqb m x)) (firsts xs))
    once = AllPairs-filter (λ a b. a ≢ b) (λ m. not (eqb m x)) (firsts xs) before

    pairs : IsEachOnce (x ∷ filter (λ m. not (eqb m x)) (firsts xs))
    pairs zero zero d l m = absurd (omega (arith, l))
    pairs zero (suc j) d l m = λ e. (kept_from x _ (firsts xs) (stands (filter (λ m. not (eqb m x)) (firsts xs)) j d (omega (arith, m)))).1
        (sym e)
    pairs (suc i) zero d l m = absurd (omega (arith, l))
    pairs (suc i) (suc j) d l m = once i j d (omega (arith, l)) (omega (arith, m))

pub firsts_once : (xs : List ℕ) → IsEachOnce (firsts xs)
firsts_once [] = λ i j d l m. absurd (omega (arith, m))
firsts_once (x ∷ xs) = once_more x xs (firsts_once xs)
