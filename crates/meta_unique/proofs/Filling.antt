-- Slots that are filled one item after another.
use Rattle.std.proofs.Common.{◌≡◌, ◌≢◌, ℕ, ◌+◌, ◌<◌, ◌≤◌, zero, suc, refl, sym, ap, ◌∙◌, subst, ◌⊎◌, inl, inr, arith, List, [], ◌∷◌, ◌++◌}
use Rattle.std.proofs.Common.{length, Some, None, Option, replicate, map, take, get_or, length-append, Bor}
use Rattle.std.specs.Prelude.{slice_get, slice_set, Contains}
use Rattle.std.specs.Option.{option_copied, option_map}
use Rattle.std.proofs.lemmas.Bool.{cases_lt, cases_order}
use Rattle.std.proofs.lemmas.Option.{slice_get_within, slice_get-map, get_or_from_slice_get}
use Rattle.std.proofs.lemmas.List.{length-set, length-map, length-replicate, take_more, take_all}
use Rattle.meta_lists.proofs.Places.{get_set_here, get_set_other, get_there}
use Rattle.meta_lists.proofs.Pushed.{get_pushed_below}
use Rattle.meta_unique.specs.Probing.{slot_at, SlotHolds, IsVacant, IsTaken}
use Rattle.meta_unique.specs.Slots.{IsTableSize, IsFirstFree, IsTakenBefore, IsFilled, IsSlots}
use Rattle.meta_unique.proofs.Walks.{vacant_taken}

-- how many slots are taken
pub taken : {X : Type 0} → List (Option X) → ℕ
taken [] = 0
taken (None ∷ slots) = taken slots
taken (Some x ∷ slots) = taken slots + 1

pub vacant_left : {X : Type 0} (slots : List (Option X)) → taken slots < length slots → (slot : ℕ) × IsVacant slots slot
unfolding taken
vacant_left [] h = absurd (omega arith)
vacant_left (None ∷ slots) h = (0, refl)
vacant_left (Some x ∷ slots) h = let left = vacant_left slots (omega arith) in (suc left.0, left.1)

pub taken_put : {X : Type 0} (slots : List (Option X)) (slot : ℕ) (x : X) → IsVacant slots slot
    → taken (slice_set slots slot (Some x)) ≡ taken slots + 1
unfolding taken
taken_put [] slot x v = (cc)
taken_put (None ∷ slots) zero x v = refl
taken_put (None ∷ slots) (suc slot) x v = taken_put slots slot x v
taken_put (Some y ∷ slots) zero x v = let e : Some (Some y) ≡ Some None = v in (cc)
taken_put (Some y ∷ slots) (suc slot) x v = ap (λ n. n + 1) (taken_put slots slot x v)

none_held : {X : Type 0} (slots : List (Option X)) (slot : ℕ) (x : X) → taken slots ≡ 0 → SlotHolds slots slot x → ⊥
unfolding taken
none_held [] slot x t h = (cc)
none_held (None ∷ slots) zero x t h = let e : Some None ≡ Some (Some x) = h in (cc)
none_held (None ∷ slots) (suc slot) x t h = none_held slots slot x t h
none_held (Some y ∷ slots) slot x t h = omega arith

filled_none : {X : Type 0} (hashes : X → ℕ → Type 0) (slots : List (Option X)) → taken slots ≡ 0 → IsFilled hashes [] slots
filled_none hashes slots t = record {
  place = λ i. i;
  holds = λ i x e. (cc);
  only = λ slot x h. absurd (none_held slots slot x t h);
  first = λ i x e. (cc);
}

-- the places, where item n is put into a slot
placed : ℕ → ℕ → (ℕ → ℕ) → ℕ → ℕ
placed n slot place i = elim (cases_lt i n) [ inl before ↦ place i | inr after ↦ slot ]

placed_old : (n slot : ℕ) (place : ℕ → ℕ) (i : ℕ) → i < n → placed n slot place i ≡ place i
unfolding placed
placed_old n slot place i h = go (cases_lt i n)
  where
    go : (d : (i < n) ⊎ (n ≤ i)) → (elim d as (λ _. ℕ) [ inl before ↦ place i | inr after ↦ slot ]) ≡ place i
    go (inl b) = refl
    go (inr b) = absurd (omega arith)

placed_new : (n slot : ℕ) (place : ℕ → ℕ) → placed n slot place n ≡ slot
unfolding placed
placed_new n slot place = go (cases_lt n n)
  where
    go : (d : (n < n) ⊎ (n ≤ n)) → (elim d as (λ _. ℕ) [ inl before ↦ place n | inr after ↦ slot ]) ≡ slot
    go (inl b) = absurd (omega arith)
    go (inr b) = refl

-- `IsFirstFree` of another test that says the same
same_free : (size size' h slot slot' : ℕ) (T T' : ℕ → Type 0) → size ≡ size' → slot ≡ slot' → ((s : ℕ) → T s → T' s) → (T' slot' → T slot)
    → IsFirstFree size h T slot → IsFirstFree size' h T' slot'
same_free size size' h slot slot' T T' e f to back r = record {
  step = r.step;
  here = sym (ap (λ n. slot_at n h r.step) e) ∙ r.here ∙ f;
  free = λ t. r.free (back t);
  passed = λ k b. to (slot_at size' h k) (subst (λ n. T (slot_at n h k)) e (r.passed k b));
}

-- no item stands in a vacant slot
away : {X : Type 0} (hashes : X → ℕ → Type 0) (xs : List X) (slots : List (Option X)) (slot i : ℕ) (f : IsFilled hashes xs slots)
    → IsVacant slots slot → i < length xs → f.place i ≢ slot
away hashes xs slots slot i f v h e =
    let x = get_there xs i h in
    vacant_taken slots slot v (x.0, subst (λ s. SlotHolds slots s x.0) e (f.holds i x.0 x.1))

-- an item is put into the first vacant slot of its probe
put_holds : {X : Type 0} (hashes : X → ℕ → Type 0) (xs : List X) (slots : List (Option X)) (x : X) (slot : ℕ)
    (f : IsFilled hashes xs slots) → IsVacant slots slot → (i : ℕ) (y : X) → slice_get (xs ++ x ∷ []) i ≡ Some y
    → SlotHolds (slice_set slots slot (Some x)) (placed (length xs) slot f.place i) y
put_holds hashes xs slots x slot f v i y e = elim (get_pushed_below xs x i y e) [
  | inl old ↦ subst (λ s. SlotHolds (slice_set slots slot (Some x)) s y) (sym (placed_old (length xs) slot f.place i old.0))
      (get_set_other slots slot (f.place i) (Some x) (away hashes xs slots slot i f v old.0) ∙ f.holds i y old.1)
  | inr new ↦ subst (λ s. SlotHolds (slice_set slots slot (Some x)) s y) (sym (ap (placed (length xs) slot f.place) new.0
      ∙ placed_new (length xs) slot f.place))
      (get_set_here slots slot (Some x) (slice_get_within slots slot None v) ∙ ap (λ w. Some (Some w)) new.1)
]

put_only : {X : Type 0} (hashes : X → ℕ → Type 0) (xs : List X) (slots : List (Option X)) (x : X) (slot : ℕ) (f : IsFilled hashes xs slots)
    (s : ℕ) (y : X) → SlotHolds (slice_set slots slot (Some x)) s y
    → (i : ℕ) × (i < length (xs ++ x ∷ [])) × (placed (length xs) slot f.place i ≡ s)
put_only {X} hashes xs slots x slot f s y h = elim (cases_order s slot) [
  | inl same ↦ (length xs, omega (arith, length-append {A = X}), placed_new (length xs) slot f.place ∙ sym same)
  | inr other ↦
      let old = f.only s y (sym (get_set_other slots slot s (Some x) (λ e. elim other [ inl b ↦ omega arith | inr b ↦ omega arith ])) ∙ h)
      in
      (old.0, omega (arith, length-append {A = X}, old.1), placed_old (length xs) slot f.place old.0 old.1 ∙ old.2)
]

put_first : {X : Type 0} (hashes : X → ℕ → Type 0) (xs : List X) (slots : List (Option X)) (x : X) (h slot : ℕ)
    (f : IsFilled hashes xs slots) → IsVacant slots slot → hashes x h → IsFirstFree (length slots) h (IsTaken slots) slot
    → (i : ℕ) (y : X) → slice_get (xs ++ x ∷ []) i ≡ Some y
    → (h' : ℕ) × hashes y h' × IsFirstFree (length (slice_set slots slot (Some x))) h' (IsTakenBefore (placed (length xs) slot f.place) i)
    (placed (length xs) slot f.place i)
put_first hashes xs slots x h slot f v says free i y e = elim (get_pushed_below xs x i y e) [
  | inl old ↦
      let was = f.first i y old.1 in (
        was.0,
        was.1,
        same_free _ _ was.0 _ _ _ _ (sym (length-set slots slot (Some x))) (sym (placed_old (length xs) slot f.place i old.0))
            (λ s t. (t.0, t.1, placed_old (length xs) slot f.place t.0 (omega (arith, t.1, old.0)) ∙ t.2))
            (λ t. (
              t.0,
              t.1,
              sym (placed_old (length xs) slot f.place t.0 (omega (arith, t.1, old.0))) ∙ t.2
                  ∙ placed_old (length xs) slot f.place i old.0,
            ))
            was.2,
      )
  | inr new ↦ (
    h,
    subst (λ w. hashes w h) new.1 says,
    subst (λ k. IsFirstFree (length (slice_set slots slot (Some x))) h (IsTakenBefore (placed (length xs) slot f.place) k)
        (placed (length xs) slot f.place k)) (sym new.0)
        (same_free _ _ h _ _ _ _ (sym (length-set slots slot (Some x))) (sym (placed_new (length xs) slot f.place))
        (λ s t. let at = f.only s t.0 t.1 in (at.0, at.1, placed_old (length xs) slot f.place at.0 at.1 ∙ at.2))
        (λ t. absurd (away hashes xs slots slot t.0 f v t.1 (sym (placed_old (length xs) slot f.place t.0 t.1) ∙ t.2
        ∙ placed_new (length xs) slot f.place)))
        free),
  )
]

filled_more : {X : Type 0} (hashes : X → ℕ → Type 0) (xs : List X) (slots : List (Option X)) (x : X) (h slot : ℕ)
    → IsFilled hashes xs slots → IsVacant slots slot → hashes x h → IsFirstFree (length slots) h (IsTaken slots) slot
    → IsFilled hashes (xs ++ x ∷ []) (slice_set slots slot (Some x))
filled_more hashes xs slots x h slot f v says free = record {
  place = placed (length xs) slot f.place;
  holds = put_holds hashes xs slots x slot f v;
  only = put_only hashes xs slots x slot f;
  first = put_first hashes xs slots x h slot f v says free;
}

-- the slots after the first items
pub record Filling {X : Type 0} (hashes : X → ℕ → Type 0) (items : List X) (index : ℕ) (slots : List (Option X)) : Type 0 where
  pub size : IsTableSize (length items) (length slots)
  pub filled : IsFilled hashes (take index items) slots
  pub count : taken slots ≡ index

vacant_taken_count : (X : Type 0) (size : ℕ) → taken (map (option_copied {T = X}) (replicate size None)) ≡ 0
unfolding taken
vacant_taken_count X zero = refl
vacant_taken_count X (suc size) = vacant_taken_count X size

pub filling_start : {X : Type 0} (hashes : X → ℕ → Type 0) (items : List X) (size : ℕ) (raw : List (Option (Bor X)))
    → IsTableSize (length items) size → raw ≡ replicate size None → Filling hashes items 0 (map option_copied raw)
filling_start {X} hashes items size raw s e = subst (λ r. Filling hashes items 0 (map option_copied r)) (sym e) (record {
  size = subst (IsTableSize (length items)) (sym (length-map (replicate size None) (option_copied {T = X}) ∙ length-replicate size None)) s;
  filled = filled_none hashes _ (vacant_taken_count X size);
  count = vacant_taken_count X size;
})

pub filling_next : {X : Type 0} (hashes : X → ℕ → Type 0) (items : List X) (index : ℕ) (slots : List (Option X)) (x : X) (h slot : ℕ)
    → Filling hashes items index slots → index < length items → get_or items index x ≡ x
    → hashes x h → IsVacant slots slot → IsFirstFree (length slots) h (IsTaken slots) slot
    → Filling hashes items (index + 1) (slice_set slots slot (Some x))
filling_next hashes items index slots x h slot f below at says v free = record {
  size = subst (IsTableSize (length items)) (sym (length-set slots slot (Some x))) f.size;
  filled = subst (λ ys. IsFilled hashes ys (slice_set slots slot (Some x))) (sym (take_more items index x below
      ∙ ap (λ w. take index items ++ w ∷ []) at)) (filled_more hashes (take index items) slots x h slot f.filled v says free);
  count = taken_put slots slot x v ∙ ap (λ n. n + 1) f.count;
}

pub filling_vacant : {X : Type 0} (hashes : X → ℕ → Type 0) (items : List X) (index : ℕ) (slots : List (Option X))
    → Filling hashes items index slots → index ≤ length items → (slot : ℕ) × IsVacant slots slot
filling_vacant hashes items index slots f below = vacant_left slots (omega (arith, f.count, f.size.above))

pub filling_end : {X : Type 0} (hashes : X → ℕ → Type 0) (items : List X) (index : ℕ) (slots : List (Option X))
    → Filling hashes items index slots → length items ≤ index → IsSlots hashes items slots
filling_end hashes items index slots f past = record {
  size = f.size;
  filled = subst (λ ys. IsFilled hashes ys slots) (take_all index items past) f.filled;
}

-- a slot of references is as the slot of what they point to
pub vacant_shown : {X : Type 0} (raw : List (Option (Bor X))) (slot : ℕ) → IsVacant raw slot → IsVacant (map option_copied raw) slot
vacant_shown raw slot v = slice_get-map option_copied raw slot ∙ ap (option_map option_copied) v

pub vacant_after : {X : Type 0} (raw : List (Option (Bor X))) (slot : ℕ) → IsVacant (map option_copied raw) slot → IsVacant raw slot
vacant_after [] slot v = (cc)
vacant_after (None ∷ raw) zero v = refl
vacant_after (Some r ∷ raw) zero v = let e : Some (Some r.now) ≡ Some None = v in (cc)
vacant_after (r ∷ raw) (suc slot) v = vacant_after raw slot v

-- and so the first free one of a probe is the same
pub first_shown : {X : Type 0} (raw : List (Option (Bor X))) (h slot : ℕ) → IsVacant raw slot
    → IsFirstFree (length raw) h (IsTaken raw) slot → IsFirstFree (length (map option_copied raw)) h (IsTaken (map option_copied raw)) slot
first_shown {X} raw h slot v f = same_free _ _ h slot slot _ _ (sym (length-map raw (option_copied {T = X}))) refl
    (λ s t. (t.0.now, slice_get-map option_copied raw s ∙ ap (option_map option_copied) t.1))
    (λ t. absurd (vacant_taken (map option_copied raw) slot (vacant_shown raw slot v) t))
    f

pub vacant_contained : {X : Type 0} (slots : List (Option X)) (slot : ℕ) → IsVacant slots slot → Contains slots None
vacant_contained slots slot v = (slot, slice_get_within slots slot None v, get_or_from_slice_get slots slot None None v)
