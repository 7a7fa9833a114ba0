-- Names of which one is shared by an earlier one, or none.
use Rattle.std.proofs.Common.{◌≡◌, ◌<◌, inl, inr, ⊎_elim, ℕ, zero, suc, List, slice_get, Some, refl, sym, ◌∙◌, subst, arith}
use Rattle.std.proofs.lemmas.Bool.{cases_order}
use Rattle.std.proofs.lemmas.Option.{same_Some}
use Rattle.meta_types.specs.SharedNames.{IsDuplicate, SharesName, AreDistinct, AreDifferentNames}

-- the first of those that share a name is one
pub one_earlier : (names : List (List ℕ)) (k j i : ℕ) → IsDuplicate names k j → IsDuplicate names k i → j ≡ i
one_earlier names k j i a b =
    let same : a.name ≡ b.name = same_Some a.name b.name (sym a.is_name ∙ b.is_name) in
    ⊎_elim
    (λ e. e)
    (⊎_elim
    (λ l. absurd (b.first j a.earlier l a.is_earlier (subst (SharesName a.earlier) same a.shares)))
    (λ l. absurd (a.first i b.earlier l b.is_earlier (subst (SharesName b.earlier) (sym same) b.shares))))
    (cases_order j i)

-- where no earlier name is the first that is shared, none is shared
module _ (names : List (List ℕ)) (k : ℕ) (name : List ℕ) (is : slice_get names k ≡ Some name) (never : (j : ℕ) → IsDuplicate names k j
    → ⊥) where
  none_before : (n j : ℕ) (earlier : List ℕ) → j < n → j < k → slice_get names j ≡ Some earlier → SharesName earlier name → ⊥
  none_before zero j earlier l before at shares = omega arith
  none_before (suc n) j earlier l before at shares = never j (record {
    name = name;
    earlier = earlier;
    is_name = is;
    is_earlier = at;
    before = before;
    shares = shares;
    first = λ i other less there s. none_before n i other (omega arith) (omega arith) there s;
  })

  none_shared : (j : ℕ) (earlier : List ℕ) → j < k → slice_get names j ≡ Some earlier → SharesName earlier name → ⊥
  none_shared j earlier before at shares = none_before (suc j) j earlier (omega arith) before at shares

-- distinct names are different
pub distinct_differ : (names : List (List ℕ)) → AreDistinct names → AreDifferentNames names
distinct_differ names distinct j k name at_j at_k = elim (cases_order j k) [
  | inl same ↦ same
  | inr other ↦ elim other [
    | inl before ↦ absurd (none_shared names k name at_k (distinct k) j name before at_j (inl refl))
    | inr after ↦ absurd (none_shared names j name at_j (distinct j) k name after at_k (inl refl))
  ]
]
