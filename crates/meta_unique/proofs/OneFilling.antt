-- Names have one filling of slots.
use Rattle.std.proofs.Common.{◌≡◌, ◌<◌, ⊎_elim, ℕ, zero, suc, List, length, slice_get, Option, None, Some, refl, sym, ap, ◌∙◌, subst, arith}
use Rattle.std.proofs.lemmas.Bool.{cases_order}
use Rattle.std.proofs.lemmas.Option.{same_Some, slice_get_within}
use Rattle.meta_lists.proofs.Places.{get_there, same_places}
use Rattle.meta_unique.specs.Probing.{slot_at, SlotHolds}
use Rattle.meta_unique.specs.SimpleHash.{simple_hash_of}
use Rattle.meta_unique.specs.Slots.{IsTableSize, IsFirstFree, IsTakenBefore, IsFilled}
use Rattle.meta_unique.specs.NameSlots.{HashesTo, numbers_from, AreNameSlots}

-- a number has one hash
one_hash : (first : ℕ) (names : List (List ℕ)) (number h g : ℕ) → HashesTo first names number h → HashesTo first names number g → h ≡ g
one_hash first names number h g a b =
    let place : a.is_number.place ≡ b.is_number.place = omega (arith, a.is_number.number_is, b.is_number.number_is) in
    let name : a.name ≡ b.name = same_Some a.name b.name (sym a.is_number.there ∙ ap (slice_get names) place ∙ b.is_number.there) in
    a.hash ∙ ap simple_hash_of name ∙ sym b.hash

-- where what stands before is the same, the first free slot is
same_free : (size h : ℕ) (one other : ℕ → Type 0) (p q : ℕ) → ((slot : ℕ) → one slot → other slot) → ((slot : ℕ) → other slot → one slot)
    → IsFirstFree size h one p → IsFirstFree size h other q → p ≡ q
same_free size h one other p q to back a b =
    ⊎_elim
    (λ same. sym a.here ∙ ap (slot_at size h) same ∙ b.here)
    (λ apart. ⊎_elim
    (λ (l : a.step < b.step). absurd (a.free (subst one a.here (back (slot_at size h a.step) (b.passed a.step l)))))
    (λ (l : b.step < a.step). absurd (b.free (subst other b.here (to (slot_at size h b.step) (a.passed b.step l)))))
    apart)
    (cases_order a.step b.step)

module _ {X : Type 0} (hashes : X → ℕ → Type 0) (one_hash : (x : X) (h g : ℕ) → hashes x h → hashes x g
    → h ≡ g) (items : List X) (a b : List (Option X)) (long : length a ≡ length b) (p : IsFilled hashes items a)
    (q : IsFilled hashes items b) where
  -- the items stand at the same places
  same_place : (n i : ℕ) (x : X) → i < n → slice_get items i ≡ Some x → p.place i ≡ q.place i
  same_place zero i x l at = absurd (omega (arith, l))
  same_place (suc n) i x l at =
      let inside = slice_get_within items i x at in
      let earlier : (j : ℕ) → j < i → p.place j ≡ q.place j = λ j m. let (y, at_y) = get_there items j (omega arith)
      in same_place n j y (omega (arith, l)) at_y in
      let (h, hashed, free) = p.first i x at in
      let (g, hashed_too, free_too) = q.first i x at in
      let there : IsFirstFree (length a) h (IsTakenBefore q.place i) (q.place i) =
      subst (λ n. IsFirstFree n h (IsTakenBefore q.place i) (q.place i)) (sym long)
      (subst (λ w. IsFirstFree (length b) w (IsTakenBefore q.place i) (q.place i)) (sym (one_hash x h g hashed hashed_too)) free_too) in
      same_free (length a) h (IsTakenBefore p.place i) (IsTakenBefore q.place i) (p.place i) (q.place i)
      (λ slot t. (t.0, t.1, sym (earlier t.0 t.1) ∙ t.2))
      (λ slot t. (t.0, t.1, earlier t.0 t.1 ∙ t.2))
      free there

  -- what stands in a slot of the one stands in that of the other
  pub held_too : (slot : ℕ) (x : X) → SlotHolds a slot x → SlotHolds b slot x
  held_too slot x h =
      let (i, l, is) = p.only slot x h in
      let (y, at) = get_there items i l in
      let same : x ≡ y = same_Some x y (same_Some (Some x) (Some y) (sym h ∙ ap (slice_get a) (sym is) ∙ p.holds i y at)) in
      ap (slice_get b) (sym is ∙ same_place (suc i) i y (omega arith) at) ∙ q.holds i y at ∙ ap (λ z. Some (Some z)) (sym same)

module _ {X : Type 0} (hashes : X → ℕ → Type 0) (one_hash : (x : X) (h g : ℕ) → hashes x h → hashes x g
    → h ≡ g) (items : List X) (a b : List (Option X)) (long : length a ≡ length b) (p : IsFilled hashes items a)
    (q : IsFilled hashes items b) where
  same_slot : (slot : ℕ) (o u : Option X) → slice_get a slot ≡ Some o → slice_get b slot ≡ Some u → o ≡ u
  same_slot slot None None at at_b = refl
  same_slot slot (Some x) u at at_b = same_Some (Some x) u (sym (held_too hashes one_hash items a b long p q slot x at) ∙ at_b)
  same_slot slot None (Some y) at at_b = same_Some None (Some y) (sym at ∙ held_too hashes one_hash items b a (sym long) q p slot y at_b)

  same_slots : a ≡ b
  same_slots = same_places a b long (λ slot l.
      let (o, at) = get_there a slot l in
      let (u, at_b) = get_there b slot (omega (arith, l, long)) in
      at ∙ ap Some (same_slot slot o u at at_b) ∙ sym at_b)

one_size : (count m n : ℕ) → IsTableSize count m → IsTableSize count n → m ≡ n
one_size count m n a b =
    let l = a.least n b.power b.above in
    let k = b.least m a.power a.above in
    omega arith

-- names have one list of slots
pub one_filling : (first : ℕ) (names : List (List ℕ)) (a b : List (Option ℕ)) → AreNameSlots first names a → AreNameSlots first names b
    → a ≡ b
one_filling first names a b p q = same_slots (HashesTo first names) (one_hash first names) (numbers_from first (length names)) a b
    (one_size (length (numbers_from first (length names))) (length a) (length b) p.size q.size) p.filled q.filled
