-- What a lookup finds in the slots of names.
use Rattle.std.proofs.Common.{◌≡◌, ℕ, ◌+◌, ◌<◌, ◌≤◌, Bool, true, false, nat_eq, List, length, slice_get, Some, None, Option, refl, sym, ap}
use Rattle.std.proofs.Common.{◌∙◌, subst, inl, inr, arith}
use Rattle.std.specs.Cmp.Lexicographic.{pointwise, bytes_decides}
use Rattle.std.proofs.lemmas.Bool.{cases_order}
use Rattle.std.proofs.lemmas.Option.{slice_get_within, same_Some}
use Rattle.meta_unique.specs.Probing.{slot_at, SlotHolds, IsVacant, IsLookup}
use Rattle.meta_lists.specs.First.{IsFirst}
use Rattle.meta_unique.specs.SimpleHash.{simple_hash_of}
use Rattle.meta_unique.specs.Slots.{IsFirstFree, IsTakenBefore}
use Rattle.meta_unique.specs.NameSlots.{IsNumberOfName, AreNameSlots, NameAnswers, IsNameLookup}
use Rattle.meta_unique.proofs.Numbered.{number_at}

-- the number of a name answers whether that name is the one that is looked for
pub answers_name : (first : ℕ) (names : List (List ℕ)) (place number : ℕ) (own name : List ℕ) (b : Bool) → number ≡ first + place
    → slice_get names place ≡ Some own → b ≡ pointwise nat_eq own name → NameAnswers first names name number b
answers_name first names place number own name b is at test = (
  λ t. record { place = place; number_is = is; there = at ∙ ap Some ((bytes_decides own name).0 (sym test ∙ t)) },
  λ n. let same : n.place ≡ place = omega (arith, is, n.number_is) in
      let one : own ≡ name = same_Some own name (sym at ∙ ap (slice_get names) (sym same) ∙ n.there) in
      test ∙ (bytes_decides own name).1 one,
)

-- no slot holds two things
one_held : (slots : List (Option ℕ)) (slot x y : ℕ) → SlotHolds slots slot x → SlotHolds slots slot y → x ≡ y
one_held slots slot x y e f = let g : Some (Some x) ≡ Some (Some y) = sym e ∙ f in (cc)

held_vacant : (slots : List (Option ℕ)) (slot x : ℕ) → SlotHolds slots slot x → IsVacant slots slot → ⊥
held_vacant slots slot x e f = let g : Some (Some x) ≡ Some None = sym e ∙ f in (cc)

module _ (first : ℕ) (names : List (List ℕ)) (slots : List (Option ℕ)) (s : AreNameSlots first names slots) (name : List ℕ) where
  -- a name's number stands at its place, the first of the probe that no earlier name has
  record Stands (j : ℕ) : Type 0 where
    holds : SlotHolds slots (s.filled.place j) (first + j)
    free : IsFirstFree (length slots) (simple_hash_of name) (IsTakenBefore s.filled.place j) (s.filled.place j)

  stands : (j : ℕ) → slice_get names j ≡ Some name → Stands j
  stands j e =
      let at = number_at first (length names) j (slice_get_within names j name e) in
      let f = s.filled.first j (first + j) at in
      let same : f.1.is_number.place ≡ j = omega (arith, f.1.is_number.number_is) in
      let own : f.1.name ≡ name = same_Some f.1.name name (sym f.1.is_number.there ∙ ap (slice_get names) same ∙ e) in
      record {
        holds = s.filled.holds j (first + j) at;
        free = subst (λ h. IsFirstFree (length slots) h (IsTakenBefore s.filled.place j) (s.filled.place j)) (f.1.hash
            ∙ ap simple_hash_of own) f.2;
      }

  -- an item before another one stands where it is taken
  earlier_held : (j slot : ℕ) → slice_get names j ≡ Some name → IsTakenBefore s.filled.place j slot
      → (i : ℕ) × (i < j) × SlotHolds slots slot (first + i)
  earlier_held j slot e t =
      let l = slice_get_within names j name e in
      let b = t.1 in (
        t.0,
        b,
        subst (λ w. SlotHolds slots w (first + t.0)) t.2
            (s.filled.holds t.0 (first + t.0) (number_at first (length names) t.0 (omega arith))),
      )

  module _ (last : ℕ) where
    pub found_first : (e : ℕ) → IsLookup (NameAnswers first names name) slots (simple_hash_of name) (Some e) last
        → IsFirst (IsNumberOfName first names name) e
    found_first e l = record {
      holds = l.ends.1.0 refl;
      none_before = λ other below n. let least = subst (λ w. e ≤ w) (sym n.number_is) (before n.place n.there)
          in omega (arith, below, least);
    }
      where
        before : (j : ℕ) → slice_get names j ≡ Some name → e ≤ first + j
        before j at =
            let w = stands j at in
            elim (cases_order w.free.step last) [
              | inl same ↦
                  let held : SlotHolds slots (slot_at (length slots) (simple_hash_of name) last) (first + j) =
                  subst (λ k. SlotHolds slots (slot_at (length slots) (simple_hash_of name) k) (first + j)) same
                  (subst (λ z. SlotHolds slots z (first + j)) (sym w.free.here) w.holds) in
                  let one = one_held slots (slot_at (length slots) (simple_hash_of name) last) e (first + j) l.ends.0 held
                  in omega (arith, one)
              | inr differ ↦ elim differ [
                | inl passed ↦
                    let p = l.passed w.free.step passed in
                    let one = one_held slots (slot_at (length slots) (simple_hash_of name) w.free.step) p.number (first + j) p.taken
                    (subst (λ z. SlotHolds slots z (first + j)) (sym w.free.here) w.holds) in
                    let refused : false ≡ true = p.refused.1 (record { place = j; number_is = one; there = at }) in
                    absurd (cc)
                | inr after ↦
                    let h = earlier_held j (slot_at (length slots) (simple_hash_of name) last) at (w.free.passed last after) in
                    let one = one_held slots (slot_at (length slots) (simple_hash_of name) last) e (first + h.0) l.ends.0 h.2 in
                    let b = h.1 in omega (arith, one, b)
              ]
            ]

    pub found_none : IsLookup (NameAnswers first names name) slots (simple_hash_of name) None last → (number : ℕ)
        → IsNumberOfName first names name number → ⊥
    found_none l number n =
        let w = stands n.place n.there in
        elim (cases_order w.free.step last) [
          | inl same ↦ held_vacant slots (slot_at (length slots) (simple_hash_of name) last) (first + n.place)
              (subst (λ k. SlotHolds slots (slot_at (length slots) (simple_hash_of name) k) (first + n.place)) same
              (subst (λ z. SlotHolds slots z (first + n.place)) (sym w.free.here) w.holds)) l.ends
          | inr differ ↦ elim differ [
            | inl passed ↦
                let p = l.passed w.free.step passed in
                let one = one_held slots (slot_at (length slots) (simple_hash_of name) w.free.step) p.number (first + n.place) p.taken
                (subst (λ z. SlotHolds slots z (first + n.place)) (sym w.free.here) w.holds) in
                let refused : false ≡ true = p.refused.1 (record { place = n.place; number_is = one; there = n.there }) in
                absurd (cc)
            | inr after ↦
                let h = earlier_held n.place (slot_at (length slots) (simple_hash_of name) last) n.there (w.free.passed last after) in
                held_vacant slots (slot_at (length slots) (simple_hash_of name) last) (first + h.0) h.2 l.ends
          ]
        ]

-- a lookup by one test is one by another, if it says so
pub lookup_by : (says other : ℕ → Bool → Type 0) (slots : List (Option ℕ)) (start last : ℕ) (found : Option ℕ)
    → ((number : ℕ) (b : Bool) → says number b → other number b) → IsLookup says slots start found last
    → IsLookup other slots start found last
lookup_by says other slots start last None so l = record {
  inside = l.inside;
  passed = λ k b. let p = l.passed k b
      in record { number = p.number; taken = p.taken; refused = so p.number false p.refused };
  ends = l.ends;
}
lookup_by says other slots start last (Some number) so l = record {
  inside = l.inside;
  passed = λ k b. let p = l.passed k b
      in record { number = p.number; taken = p.taken; refused = so p.number false p.refused };
  ends = (l.ends.0, so number true l.ends.1);
}

-- a lookup by the slots and the hash that were read, and by a test that says whether a number is that of the name
pub lookup_read : (first : ℕ) (names : List (List ℕ)) (name : List ℕ) (says : ℕ → Bool
    → Type 0) (own slots : List (Option ℕ)) (start : ℕ) (found : Option ℕ) (last : ℕ) → own ≡ slots → start ≡ simple_hash_of name
    → ((number : ℕ) (b : Bool) → says number b → NameAnswers first names name number b)
    → IsLookup says own start found last → IsNameLookup first names slots name found last
lookup_read first names name says own slots start found last same hashed so l =
    subst (λ w. IsNameLookup first names w name found last) same
    (subst (λ h. IsLookup (NameAnswers first names name) own h found last) hashed
    (lookup_by says (NameAnswers first names name) own start last found so l))
