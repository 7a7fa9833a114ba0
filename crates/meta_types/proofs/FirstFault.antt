-- The search for the first fault, step by step, and that there is at most one first fault.
use Rattle.std.proofs.Common.{◌≡◌, ◌<◌, ◌+◌, ◌⊎◌, inl, inr, ⊎_elim, ℕ, suc, sym, ap, ◌∙◌, subst, arith}
use Rattle.std.proofs.lemmas.Bool.{cases_order}
use Rattle.meta_types.specs.declared.fault.DefinitionError.{DefinitionError}
use Rattle.meta_types.specs.FirstFault.{Key, key_at, IsEarlier, HasNoneBefore, IsFirstFound, HasNoFault}

-- k is one of these counts: of parts, of places in its part, and of rules
pub record IsIn (parts : ℕ) (places rules : ℕ → ℕ) (k : Key) : Type 0 where
  pub part : k.part < parts
  pub place : k.place < places k.part
  pub rule : k.rule < rules k.part

-- What is to be shown of an order in which faults are looked for: a position is known by its key; at a position at most one fault is shown;
-- and the keys are within these counts of parts, of places in each part, and of rules for each place.
pub record IsSearchable {P : Type 0} (key : P → Key) (Has : P → DefinitionError → Type 0) (parts : ℕ)
    (places rules : ℕ → ℕ) : Type 0 where
  pub position_of : Key → P
  pub known : (p : P) → position_of (key p) ≡ p
  pub one : (p : P) (e f : DefinitionError) → Has p e → Has p f → e ≡ f
  pub within : (p : P) (e : DefinitionError) → Has p e → IsIn parts places rules (key p)

-- of two keys one is before the other, or they are one
ordered : (k m : Key) → (k ≡ m) ⊎ (IsEarlier k m ⊎ IsEarlier m k)
ordered k m =
    ⊎_elim
    (λ part. ⊎_elim
    (λ place. ⊎_elim
    (λ rule. inl (λ i. record { part = part i; place = place i; rule = rule i }))
    (⊎_elim (λ l. inr (inl (inr (part, inr (place, l))))) (λ l. inr (inr (inr (sym part, inr (sym place, l))))))
    (cases_order k.rule m.rule))
    (⊎_elim (λ l. inr (inl (inr (part, inl l)))) (λ l. inr (inr (inr (sym part, inl l)))))
    (cases_order k.place m.place))
    (⊎_elim (λ l. inr (inl (inl l))) (λ l. inr (inr (inl l))))
    (cases_order k.part m.part)

-- before the first key there is no position
pub none_before_first : {P : Type 0} (key : P → Key) (Has : P → DefinitionError → Type 0) → HasNoneBefore key Has (key_at 0 0 0)
none_before_first key Has = λ p e l s. grind (arith, l)

module _ {P : Type 0} {key : P → Key} {Has : P → DefinitionError → Type 0} {parts : ℕ} {places rules : ℕ
    → ℕ} (so : IsSearchable key Has parts places rules) where
  same : (p q : P) → key p ≡ key q → p ≡ q
  same p q is = sym (so.known p) ∙ ap so.position_of is ∙ so.known q

  -- two first faults are one
  pub one_first_shown : (e f : DefinitionError) → IsFirstFound key Has e → IsFirstFound key Has f → e ≡ f
  one_first_shown e f a b =
      ⊎_elim
      (λ is. so.one a.position e f a.shows (subst (λ p. Has p f) (sym (same a.position b.position is)) b.shows))
      (⊎_elim (λ l. absurd (b.first a.position e l a.shows)) (λ l. absurd (a.first b.position f l b.shows)))
      (ordered (key a.position) (key b.position))

  -- none is shown before k, and none from there to m: none is shown before m
  onward : (k m : Key) → HasNoneBefore key Has k → ((p : P) (e : DefinitionError) → IsEarlier (key p) m → (IsEarlier (key p) k → ⊥)
      → Has p e → ⊥) → HasNoneBefore key Has m
  onward k m none between p e l s =
      ⊎_elim
      (λ is. between p e l (λ b. let part = ap (λ (x : Key). x.part) is in let place = ap (λ (x : Key). x.place) is in let rule =
      ap (λ (x : Key). x.rule) is in grind (arith, b, part, place, rule)) s)
      (⊎_elim (λ b. none p e b s) (λ b. between p e l (λ c. grind (arith, b, c)) s))
      (ordered (key p) k)

  -- the rule at p shows none: on to the next rule
  pub passed : (p : P) → HasNoneBefore key Has (key p) → ((e : DefinitionError) → Has p e → ⊥)
      → HasNoneBefore key Has (key_at (key p).part (key p).place (suc (key p).rule))
  passed p none never = onward (key p) (key_at (key p).part (key p).place (suc (key p).rule)) none (λ q e l n s.
      let part : (key q).part ≡ (key p).part = grind (arith, l, n) in
      let place : (key q).place ≡ (key p).place = grind (arith, l, n) in
      let rule : (key q).rule ≡ (key p).rule = grind (arith, l, n) in
      never e (subst (λ r. Has r e) (same q p (λ i. record { part = part i; place = place i; rule = rule i })) s))

  -- all rules show none at a place: on to the next place
  pub next_place : (part place : ℕ) → HasNoneBefore key Has (key_at part place (rules part))
      → HasNoneBefore key Has (key_at part (place + 1) 0)
  next_place part place none = onward (key_at part place (rules part)) (key_at part (place + 1) 0) none (λ p e l n s.
      let here : (key p).part ≡ part = grind (arith, l, n) in
      let few = rw here at (so.within p e s).rule in
      grind (arith, l, n, few))

  -- none of the first rules shows one at a place
  pub some_rules : (part place n : ℕ) → HasNoneBefore key Has (key_at part place 0)
      → ((p : P) (e : DefinitionError) → (key p).part ≡ part → (key p).place ≡ place → (key p).rule < n → Has p e → ⊥)
      → HasNoneBefore key Has (key_at part place n)
  some_rules part place n none never =
      onward (key_at part place 0) (key_at part place n) none
      (λ p e l past s. never p e (grind (arith, l, past)) (grind (arith, l, past)) (grind (arith, l, past)) s)

  -- none is shown at all places of a part: on to the next part
  pub next_part : (part : ℕ) → HasNoneBefore key Has (key_at part (places part) 0) → HasNoneBefore key Has (key_at (suc part) 0 0)
  next_part part none = onward (key_at part (places part) 0) (key_at (suc part) 0 0) none (λ p e l n s.
      let here : (key p).part ≡ part = grind (arith, l, n) in
      let few = rw here at (so.within p e s).place in
      grind (arith, l, n, few))

  -- none is shown in any part: none is shown
  pub none_left : HasNoneBefore key Has (key_at parts 0 0) → HasNoFault Has
  none_left none p e s = none p e (inl (so.within p e s).part) s
