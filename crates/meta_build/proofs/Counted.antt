-- Two lists that hold the same sets, each once, are of one length.
use Rattle.std.proofs.Common.{◌≡◌, ◌≢◌, ◌<◌, ◌≤◌, ◌⊎◌, inl, inr, ⊎_elim, ℕ, zero, suc, true, false, cond, eqb, List, length, get_or}
use Rattle.std.proofs.Common.{slice_get, Some, sym, ap, ◌∙◌, subst, arith}
use Rattle.std.proofs.lemmas.Option.{slice_get_within, slice_get-get_or}
use Rattle.std.proofs.lemmas.Bool.{cases_lt}
use Rattle.std.proofs.lemmas.Bool.Decides.{nat_tests}
use Rattle.meta_typevar.specs.TypeSetParts.{TypeSetParts, no_types}
use Rattle.meta_inst.specs.InstructionSet.{InstructionSet}
use Rattle.meta_inst.specs.Faults.{AreNeededSets}

-- the numbers below m go to numbers below n, no two to one
record Injects (m n : ℕ) (f : ℕ → ℕ) : Type 0 where
  within : (k : ℕ) → k < m → f k < n
  apart : (i k : ℕ) → i < m → k < m → f i ≡ f k → i ≡ k

-- f, with what goes to n sent where m goes
abbrev without : ℕ → ℕ → (ℕ → ℕ) → ℕ → ℕ
without m n f k = cond (eqb (f k) n) (f m) (f k)

-- what is equal to n, or not
equal_or_not : (a b : ℕ) → ((a ≡ b) × (eqb a b ≡ true)) ⊎ ((a ≢ b) × (eqb a b ≡ false))
equal_or_not a b = ⊎_elim (λ l. inr ((λ e. omega (arith, e, l)), grind (arith, nat_tests)))
    (λ l. ⊎_elim (λ g. inr ((λ e. omega (arith, e, g)), grind (arith, nat_tests)))
    (λ g. inl (omega (arith, l, g), grind (arith, nat_tests))) (cases_lt b a)) (cases_lt a b)

-- one less goes to one less
one_less : (m n : ℕ) (f : ℕ → ℕ) → Injects (suc m) (suc n) f → Injects m n (without m n f)
one_less m n f h = record { within = inside; apart = differ }
  where
    sent : (k : ℕ) → f k ≡ n → without m n f k ≡ f m
    sent k e = ⊎_elim (λ h. ap (λ b. cond b (f m) (f k)) h.1) (λ h. absurd (h.0 e)) (equal_or_not (f k) n)

    stays : (k : ℕ) → f k ≢ n → without m n f k ≡ f k
    stays k e = ⊎_elim (λ h. absurd (e h.0)) (λ h. ap (λ b. cond b (f m) (f k)) h.1) (equal_or_not (f k) n)

    inside : (k : ℕ) → k < m → without m n f k < n
    inside k l = ⊎_elim
        (λ same.
        let last : f m ≢ n = λ e. let i = h.apart m k (omega arith) (omega arith) (e ∙ sym same.0) in omega arith in
        let below = h.within m (omega arith) in
        subst (λ x. x < n) (sym (sent k same.0)) (omega arith))
        (λ other.
        let ne = other.0 in
        let below = h.within k (omega arith) in
        subst (λ x. x < n) (sym (stays k other.0)) (omega arith))
        (equal_or_not (f k) n)

    differ : (i k : ℕ) → i < m → k < m → without m n f i ≡ without m n f k → i ≡ k
    differ i k l g e = ⊎_elim
        (λ a. ⊎_elim
        (λ b. h.apart i k (omega arith) (omega arith) (a.0 ∙ sym b.0))
        (λ b. let same = h.apart m k (omega arith) (omega arith) (sym (sent i a.0) ∙ e ∙ stays k b.0) in absurd (omega arith))
        (equal_or_not (f k) n))
        (λ a. ⊎_elim
        (λ b. let same = h.apart i m (omega arith) (omega arith) (sym (stays i a.0) ∙ e ∙ sent k b.0) in absurd (omega arith))
        (λ b. h.apart i k (omega arith) (omega arith) (sym (stays i a.0) ∙ e ∙ stays k b.0))
        (equal_or_not (f k) n))
        (equal_or_not (f i) n)

-- so m is at most n
injected : (m n : ℕ) (f : ℕ → ℕ) → Injects m n f → m ≤ n
injected zero n f h = omega arith
injected (suc m) zero f h = absurd (omega (arith, h.within 0 (omega arith)))
injected (suc m) (suc n) f h = let r = injected m n (without m n f) (one_less m n f h) in omega arith

module _ (d : InstructionSet) (xs ys : List TypeSetParts) (hx : AreNeededSets d xs) (hy : AreNeededSets d ys) where
  -- the set at a place, which the other list has too
  at : (k : ℕ) → k < length xs → slice_get xs k ≡ Some (get_or xs k no_types)
  at k l = slice_get-get_or xs k no_types l

  there : (k : ℕ) → k < length xs → (j : ℕ) × (slice_get ys j ≡ Some (get_or xs k no_types))
  there k l = hy.all (get_or xs k no_types) (hx.needed k (get_or xs k no_types) (at k l))

  place : (k : ℕ) → ((k < length xs) ⊎ (length xs ≤ k)) → ℕ
  place k c = ⊎_elim (λ l. (there k l).0) (λ g. 0) c

  placed : (k : ℕ) (c : (k < length xs) ⊎ (length xs ≤ k)) → k < length xs → slice_get ys (place k c) ≡ Some (get_or xs k no_types)
  unfolding place
  placed k (inl l) below = (there k l).1
  placed k (inr g) below = absurd (omega arith)

  goes : ℕ → ℕ
  goes k = place k (cases_lt k (length xs))

  reached : (k : ℕ) → k < length xs → slice_get ys (goes k) ≡ Some (get_or xs k no_types)
  unfolding goes
  reached k l = placed k (cases_lt k (length xs)) l

  goes_apart : (i k : ℕ) → i < length xs → k < length xs → goes i ≡ goes k → i ≡ k
  goes_apart i k l g e = hx.once i k (get_or xs i no_types) (at i l) (at k g ∙ sym (reached k g) ∙ ap (slice_get ys) (sym e) ∙ reached i l)

  -- the first list isn't longer
  no_longer : length xs ≤ length ys
  no_longer = injected (length xs) (length ys) goes (record {
    within = λ k l. slice_get_within ys (goes k) (get_or xs k no_types) (reached k l);
    apart = goes_apart;
  })

-- two lists of needed sets have the same length
pub one_count : (d : InstructionSet) (xs ys : List TypeSetParts) → AreNeededSets d xs → AreNeededSets d ys → length xs ≡ length ys
one_count d xs ys hx hy = let a = no_longer d xs ys hx hy in let b = no_longer d ys xs hy hx in omega arith
