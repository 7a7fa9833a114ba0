-- The names up to a place.
use Rattle.std.proofs.Common.{◌≡◌, ◌↔◌, ◌+◌, ◌<◌, ◌≤◌, ℕ, ⊎_elim, IsTrue, true, false, List, [], ◌∷◌, ◌++◌, length, take, slice_get, Some}
use Rattle.std.proofs.Common.{refl, sym, ap, ◌∙◌, subst, arith}
use Rattle.std.proofs.lemmas.Bool.{cases_eq, false≢true}
use Rattle.std.proofs.lemmas.Option.{slice_get_within, get_or_from_slice_get}
use Rattle.std.proofs.lemmas.List.{take_more, length-take}
use Rattle.meta_lists.proofs.Places.{get_take}
use Rattle.meta_types.specs.SharedNames.{IsDuplicate, AreDistinct}

-- a name that is shared among the names up to its place is shared among all, and the other way round
duplicate_of_all : (names : List (List ℕ)) (k j : ℕ) → IsDuplicate (take (k + 1) names) k j → IsDuplicate names k j
duplicate_of_all names k j h =
    let before = h.before in
    record {
      name = h.name;
      earlier = h.earlier;
      is_name = sym (get_take names (k + 1) k (omega arith)) ∙ h.is_name;
      is_earlier = sym (get_take names (k + 1) j (omega arith)) ∙ h.is_earlier;
      before = h.before;
      shares = h.shares;
      first = λ i other l is s. h.first i other l (get_take names (k + 1) i (omega arith) ∙ is) s;
    }

duplicate_so_far : (names : List (List ℕ)) (k j : ℕ) → IsDuplicate names k j → IsDuplicate (take (k + 1) names) k j
duplicate_so_far names k j h =
    let before = h.before in
    record {
      name = h.name;
      earlier = h.earlier;
      is_name = get_take names (k + 1) k (omega arith) ∙ h.is_name;
      is_earlier = get_take names (k + 1) j (omega arith) ∙ h.is_earlier;
      before = h.before;
      shares = h.shares;
      first = λ i other l is s. h.first i other l (sym (get_take names (k + 1) i (omega arith)) ∙ is) s;
    }

-- what the names before a place and the name there tell of all names
module _ (names : List (List ℕ)) (k : ℕ) (name : List ℕ) (at : slice_get names k ≡ Some name) (kept : List (List ℕ)) (are : kept
    ≡ take k names) where
  one_more : kept ++ name ∷ [] ≡ take (k + 1) names
  one_more =
      ap (λ ns. ns ++ name ∷ []) are
      ∙ sym (take_more names k name (slice_get_within names k name at)
      ∙ ap (λ n. take k names ++ n ∷ []) (get_or_from_slice_get names k name name at))

  kept_count : length kept ≡ k
  kept_count = let w = slice_get_within names k name at in ap length are ∙ omega (arith, length-take k names)

  pub shared_found : (j : ℕ) → IsDuplicate (kept ++ name ∷ []) (length kept) j → IsDuplicate names k j
  shared_found j h =
      duplicate_of_all names k j (subst (λ ns. IsDuplicate ns k j) one_more (subst (λ n. IsDuplicate (kept ++ name ∷ []) n j) kept_count h))

  pub unshared_found : ((j : ℕ) → IsDuplicate (kept ++ name ∷ []) (length kept) j → ⊥) → (j : ℕ) → IsDuplicate names k j → ⊥
  unshared_found never j h = never j (subst (λ n. IsDuplicate (kept ++ name ∷ []) n j) (sym kept_count)
      (subst (λ ns. IsDuplicate ns k j) (sym one_more) (duplicate_so_far names k j h)))

  pub kept_more : (more : List (List ℕ)) → more ≡ kept ++ name ∷ [] → more ≡ take (k + 1) names
  kept_more more e = e ∙ one_more

-- ---- whether names are distinct, one after the other

-- the names so far are kept, and none of them is shared by one before it
pub record NamesAreKept (names : List (List ℕ)) (n : ℕ) (kept : List (List ℕ)) : Type 0 where
  pub so_far : kept ≡ take n names
  pub distinct : (k j : ℕ) → k < n → IsDuplicate names k j → ⊥

pub none_kept : (names kept : List (List ℕ)) → kept ≡ [] → NamesAreKept names 0 kept
none_kept names kept e = record { so_far = e; distinct = λ k j l d. absurd (omega (arith, l)) }

module _ (names : List (List ℕ)) (n : ℕ) (name : List ℕ) (at : slice_get names n ≡ Some name) (kept : List (List ℕ))
    (are : NamesAreKept names n kept) where
  -- the next is kept too where none shares its name
  pub one_kept : (more : List (List ℕ)) → more ≡ kept ++ name ∷ [] → ((j : ℕ) → IsDuplicate (kept ++ name ∷ []) (length kept) j → ⊥)
      → NamesAreKept names (n + 1) more
  one_kept more e never = record {
    so_far = kept_more names n name at kept are.so_far more e;
    distinct = λ k j l d. ⊎_elim
        (λ same. unshared_found names n name at kept are.so_far never j (subst (λ m. IsDuplicate names m j) same d))
        (λ other. are.distinct k j (omega (arith, l, other)) d)
        (cases_eq k n);
  }

  -- and else the names aren't distinct
  pub not_distinct : (j : ℕ) → IsDuplicate (kept ++ name ∷ []) (length kept) j → IsTrue false ↔ AreDistinct names
  not_distinct j shared =
      (λ t. absurd (false≢true t), λ distinct. absurd (distinct n j (shared_found names n name at kept are.so_far j shared)))

-- where all are kept they are distinct
pub all_kept : (names : List (List ℕ)) (n : ℕ) (kept : List (List ℕ)) → NamesAreKept names n kept → length names ≤ n
    → IsTrue true ↔ AreDistinct names
all_kept names n kept are past = (
  λ t k j d. let l = slice_get_within names k d.name d.is_name
      in are.distinct k j (omega (arith, l, past)) d,
  λ distinct. refl,
)
