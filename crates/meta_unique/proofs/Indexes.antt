-- A look-up of indexes, beside a list of entries that gains one.
use Rattle.std.specs.Option.{option_copied, is_some, IsSome}
use Rattle.std.proofs.Common.{rules, IsTrue, ◌↔◌, ◌≡◌, ℕ, refl, sym, ap, ◌∙◌, subst, inl, inr, Bool, true, false, cond, List, [], ◌∷◌, ◌++◌}
use Rattle.std.proofs.Common.{length, Some, None, Option, Bor}
use Rattle.std.proofs.lemmas.List.{map-append, length-map}
use Rattle.std.specs.Prelude.{slice_get}
use Rattle.std.specs.Cmp.{IsEquivalence}
use Rattle.meta_lists.proofs.Pushed.{get_pushed_below, get_kept, get_end}
use Rattle.meta_unique.specs.Interning.{pointed_to, IsIndexOf, IsNew, IsIndexed}

module _ {X : Type 0} (eq : X → X → Bool) (entries shown : List X)
    (look_up : Bor X → Option ℕ) (same : entries ≡ shown) (indexed : IsIndexed eq entries look_up) where
  shown_index : (x : X) (i : ℕ) → IsIndexOf eq shown x i → IsIndexOf eq entries x i
  shown_index x i h = subst (λ (es : List X). IsIndexOf eq es x i) (sym same) h

  -- what a look-up finds is the only index
  pub found_index : (r : Bor X) (i j : ℕ) → Some j ≡ look_up r → IsIndexOf eq shown r.now i → j ≡ i
  found_index r i j e h = let f = indexed.complete r i (shown_index r.now i h) in (cc)

  -- what a look-up doesn't find is new
  pub found_none : (r : Bor X) → None ≡ look_up r → IsNew eq shown r.now
  found_none r e i h = let f = indexed.complete r i (shown_index r.now i h) in (cc)

  pub found_some : (r : Bor X) (j : ℕ) → Some j ≡ look_up r → IsIndexOf eq shown r.now j
  found_some r j e = subst (λ (es : List X). IsIndexOf eq es r.now j) same (indexed.sound r j (sym e))

  -- there is an index exactly where the look-up finds one
  pub has_index : (r : Bor X) (o : Option (Bor ℕ)) (b : Bool) → option_copied o ≡ look_up r → b ≡ is_some o
      → IsTrue b ↔ ((i : ℕ) × IsIndexOf eq shown r.now i)
  has_index r None b e is = (λ t. absurd (cc), λ h. absurd (found_none r e h.0 h.1))
  has_index r (Some p) b e is = (λ t. (p.now, found_some r p.now e), λ h. is)

  pub finds_some : (r : Bor X) (o : Option (Bor ℕ)) → option_copied o ≡ look_up r → (i : ℕ) × IsIndexOf eq shown r.now i → IsSome o
  finds_some r None e h = absurd (found_none r e h.0 h.1)
  finds_some r (Some p) e h = search rules

  pub found_only : (r : Bor X) (o : Option (Bor ℕ)) (p : Bor ℕ) (i : ℕ) → option_copied o ≡ look_up r → o ≡ Some p
      → IsIndexOf eq shown r.now i → p.now ≡ i
  found_only r o p i e is h = found_index r i p.now (sym (ap option_copied is) ∙ e) h

  pub found_at : (r : Bor X) (o : Option (Bor ℕ)) (p : Bor ℕ) → option_copied o ≡ look_up r → o ≡ Some p → IsIndexOf eq shown r.now p.now
  found_at r o p e is = found_some r p.now (sym (ap option_copied is) ∙ e)

-- a look-up that gained a new entry's index
module _ {X : Type 0} (eq : X → X → Bool) (laws : IsEquivalence eq) (entries : List X)
    (look_up look_up' : Bor X → Option ℕ) (r : Bor X) (indexed : IsIndexed eq entries look_up) (new : None ≡ look_up r)
    (gains : (q : Bor X) → look_up' q ≡ cond (eq r.now q.now) (Some (length entries)) (look_up q)) where
  is_new : IsNew eq entries r.now
  is_new i h = let f = indexed.complete r i h in (cc)

  different_more : (i j : ℕ) (x y : X) → slice_get (entries ++ r.now ∷ []) i ≡ Some x → slice_get (entries ++ r.now ∷ []) j ≡ Some y
      → eq x y ≡ true → i ≡ j
  different_more i j x y e f h = elim (get_pushed_below entries r.now i x e) [
    | inl a ↦ elim (get_pushed_below entries r.now j y f) [
      | inl b ↦ indexed.different i j x y a.1 b.1 h
      | inr b ↦ absurd (is_new i (record { entry = x; there = a.1; equal = ap (λ w. eq w x) b.1 ∙ laws.symm y x ∙ h }))
    ]
    | inr a ↦ elim (get_pushed_below entries r.now j y f) [
      | inl b ↦ absurd (is_new j (record { entry = y; there = b.1; equal = ap (λ w. eq w y) a.1 ∙ h }))
      | inr b ↦ a.0 ∙ sym b.0
    ]
  ]

  sound_more : (q : Bor X) (i : ℕ) → look_up' q ≡ Some i → IsIndexOf eq (entries ++ r.now ∷ []) q.now i
  sound_more q i e = go (eq r.now q.now) refl
    where
      go : (b : Bool) → eq r.now q.now ≡ b → IsIndexOf eq (entries ++ r.now ∷ []) q.now i
      go true h =
          let f : Some (length entries) ≡ Some i = sym (gains q ∙ ap (λ b. cond b (Some (length entries)) (look_up q)) h) ∙ e in
          let at : length entries ≡ i = (cc) in
          record {
            entry = r.now;
            there = subst (λ k. slice_get (entries ++ r.now ∷ []) k ≡ Some r.now) at (get_end entries r.now);
            equal = laws.symm q.now r.now ∙ h;
          }
      go false h =
          let old = indexed.sound q i (sym (gains q ∙ ap (λ b. cond b (Some (length entries)) (look_up q)) h) ∙ e) in
          record { entry = old.entry; there = get_kept entries r.now i old.entry old.there; equal = old.equal }

  complete_more : (q : Bor X) (i : ℕ) → IsIndexOf eq (entries ++ r.now ∷ []) q.now i → look_up' q ≡ Some i
  complete_more q i h = elim (get_pushed_below entries r.now i h.entry h.there) [
    | inl a ↦ go (eq r.now q.now) refl a.1
    | inr a ↦ gains q ∙ ap (λ b. cond b (Some (length entries)) (look_up q)) (laws.symm r.now q.now ∙ ap (eq q.now) a.1 ∙ h.equal)
        ∙ ap Some (sym a.0)
  ]
    where
      go : (b : Bool) → eq r.now q.now ≡ b → slice_get entries i ≡ Some h.entry → look_up' q ≡ Some i
      go true e there = absurd (is_new i (record { entry = h.entry; there = there; equal = laws.congr r.now q.now h.entry e ∙ h.equal }))
      go false e there = gains q ∙ ap (λ b. cond b (Some (length entries)) (look_up q)) e
          ∙ indexed.complete q i (record { entry = h.entry; there = there; equal = h.equal })

  indexed_more : IsIndexed eq (entries ++ r.now ∷ []) look_up'
  indexed_more = record { different = different_more; sound = sound_more; complete = complete_more }

-- the same look-up, of the same entries
pub indexed_same : {X : Type 0} (eq : X → X → Bool) (entries entries' : List X) (look_up look_up' : Bor X → Option ℕ) → entries' ≡ entries
    → ((q : Bor X) → look_up' q ≡ look_up q) → IsIndexed eq entries look_up → IsIndexed eq entries' look_up'
indexed_same {X} eq entries entries' look_up look_up' e f indexed = subst (λ (es : List X). IsIndexed eq es look_up') (sym e) (record {
  different = indexed.different;
  sound = λ r i h. indexed.sound r i (sym (f r) ∙ h);
  complete = λ r i h. f r ∙ indexed.complete r i h;
})

pub pushed : {X : Type 0} (raw raw' : List (Bor X)) (r : Bor X) → raw' ≡ raw ++ r ∷ [] → pointed_to raw' ≡ pointed_to raw ++ r.now ∷ []
pushed raw raw' r e = ap pointed_to e ∙ map-append (λ q. q.now) raw (r ∷ [])

-- the look-up and the index after a reference to a new entry is added
module _ {X : Type 0} (eq : X → X → Bool) (laws : IsEquivalence eq) (raw raw' : List (Bor X)) (r : Bor X) (e : raw' ≡ raw ++ r ∷ [])
    (n : ℕ) (len : n ≡ length raw) where
  pub indexed_push : (look_up look_up' : Bor X → Option ℕ) → IsIndexed eq (pointed_to raw) look_up → None ≡ look_up r
      → ((q : Bor X) → look_up' q ≡ cond (eq r.now q.now) (Some n) (look_up q)) → IsIndexed eq (pointed_to raw') look_up'
  indexed_push look_up look_up' indexed new gains = subst (λ (es : List X). IsIndexed eq es look_up') (sym (pushed raw raw' r e))
      (indexed_more eq laws (pointed_to raw) look_up look_up' r indexed new (λ q. gains q
      ∙ ap (λ k. cond (eq r.now q.now) (Some k) (look_up q)) (len ∙ sym (length-map raw (λ p. p.now)))))

  pub index_push : IsIndexOf eq (pointed_to raw') r.now n
  index_push = record {
    entry = r.now;
    there = subst (λ (es : List X). slice_get es n ≡ Some r.now) (sym (pushed raw raw' r e))
        (subst (λ k. slice_get (pointed_to raw ++ r.now ∷ []) k ≡ Some r.now) (length-map raw (λ p. p.now)
        ∙ sym len) (get_end (pointed_to raw) r.now));
    equal = laws.refl r.now;
  }
