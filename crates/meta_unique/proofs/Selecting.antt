-- The least and the greatest number that pass a test.
use Rattle.std.proofs.Common.{◌≡◌, ℕ, ◌<◌, ◌≤◌, zero, suc, refl, sym, ap, ◌∙◌, subst, inl, inr, arith, Bool, true, false, cond}
use Rattle.std.proofs.lemmas.Bool.{cases_lt}
use Rattle.meta_unique.specs.Overlap.{least, greatest}

pub least_is : (test : ℕ → Bool) (n m : ℕ) → m ≤ n → ((k : ℕ) → k < m → test k ≡ false) → (m < n → test m ≡ true) → least test n ≡ m
unfolding least
least_is test zero zero le none here = refl
least_is test zero (suc m) le none here = absurd (omega arith)
least_is test (suc n) zero le none here = ap (λ b. cond b 0 (suc (least (λ k. test (suc k)) n))) (here (omega arith))
least_is test (suc n) (suc m) le none here =
    ap (λ b. cond b 0 (suc (least (λ k. test (suc k)) n))) (none 0 (omega arith))
    ∙ ap suc (least_is (λ k. test (suc k)) n m (omega arith) (λ k b. none (suc k) (omega arith)) (λ b. here (omega arith)))

pub greatest_is : (test : ℕ → Bool) (n m : ℕ) → m ≤ n → (0 < m → test m ≡ true)
    → ((k : ℕ) → m < k → k ≤ n → test k ≡ false) → greatest test n ≡ m
unfolding greatest
greatest_is test zero m le here none = omega arith
greatest_is test (suc n) m le here none = elim (cases_lt m (suc n)) [
  | inl below ↦ ap (λ b. cond b (suc n) (greatest test n)) (none (suc n) below (omega arith))
      ∙ greatest_is test n m (omega arith) here (λ k a b. none k a (omega arith))
  | inr above ↦
      let same : m ≡ suc n = omega arith in
      ap (λ b. cond b (suc n) (greatest test n)) (subst (λ k. test k ≡ true) same (here (omega arith))) ∙ sym same
]
