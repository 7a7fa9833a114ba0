-- How often a number stands in a list, and whether it stands at one place alone.
use Rattle.std.proofs.Common.{◌≡◌, ◌<◌, ◌≤◌, ◌+◌, ◌-◌, ◌==◌, ◌⊎◌, inl, inr, ⊎_elim, ℕ, zero, suc, Bool, true, false, cond, IsTrue, ◌↔◌}
use Rattle.std.proofs.Common.{List, [], ◌∷◌, length, get_or, take, drop, Option, None, Some, unwrap_or, slice_get, refl, sym, ap, ◌∙◌}
use Rattle.std.proofs.Common.{arith, zero-add, add-zero}
use Rattle.std.specs.List.{count_by}
use Rattle.std.proofs.lemmas.Bool.{eq-eqb, eqb-true, eqb-false}
use Rattle.std.proofs.lemmas.Option.{same_Some}
use Rattle.std.proofs.lemmas.List.Sums.{sum_by-cons, sum_by_more, count_by-le-length}
use Rattle.std.proofs.lemmas.List.{length-take}
use Rattle.meta_lists.proofs.Places.{get_drop}
use Rattle.meta_inst.specs.Operands.{IsAlone, AreInputCounts}

-- how often the number stands in the list
abbrev count : ℕ → List ℕ → ℕ
count n ys = count_by (λ m. m == n) ys

-- two numbers are the same or not
same_or_not : (y n : ℕ) → (y ≡ n) ⊎ (y ≡ n → ⊥)
same_or_not y n = told (y == n) refl
  where
    told : (b : Bool) → (y == n) ≡ b → (y ≡ n) ⊎ (y ≡ n → ⊥)
    told true e = inl (eqb-true y n e)
    told false e = inr (eqb-false y n e)

-- one more number
counted : (n y : ℕ) (ys : List ℕ) (b : Bool) → (y == n) ≡ b → count n (y ∷ ys) ≡ cond b 1 0 + count n ys
counted n y ys b e = sum_by-cons (λ m. cond (m == n) 1 0) y ys ∙ ap (λ b. cond b 1 0 + count n ys) e

here : (n y : ℕ) (ys : List ℕ) → y ≡ n → count n (y ∷ ys) ≡ 1 + count n ys
here n y ys e = counted n y ys true (eq-eqb y n e)

elsewhere : (n y : ℕ) (ys : List ℕ) → (y ≡ n → ⊥) → count n (y ∷ ys) ≡ count n ys
elsewhere n y ys other = told (y == n) refl
  where
    told : (b : Bool) → (y == n) ≡ b → count n (y ∷ ys) ≡ count n ys
    told true e = absurd (other (eqb-true y n e))
    told false e = counted n y ys false e ∙ zero-add (count n ys)

-- a number that stands there counts
present : (n : ℕ) (ys : List ℕ) (k : ℕ) → slice_get ys k ≡ Some n → 1 ≤ count n ys
present n [] k e = absurd (cc)
present n (y ∷ ys) zero e = omega (arith, here n y ys (same_Some y n e))
present n (y ∷ ys) (suc k) e =
    ⊎_elim (λ same. omega (arith, here n y ys same)) (λ other. omega (arith, elsewhere n y ys other, present n ys k e)) (same_or_not y n)

-- what counts once stands at one place
only : (n : ℕ) (ys : List ℕ) → count n ys ≡ 1 → (k j : ℕ) → slice_get ys k ≡ Some n → slice_get ys j ≡ Some n → j ≡ k
only n [] one k j a b = absurd (cc)
only n (y ∷ ys) one zero zero a b = refl
only n (y ∷ ys) one zero (suc j) a b = absurd (omega (arith, one, here n y ys (same_Some y n a), present n ys j b))
only n (y ∷ ys) one (suc k) zero a b = absurd (omega (arith, one, here n y ys (same_Some y n b), present n ys k a))
only n (y ∷ ys) one (suc k) (suc j) a b =
    let rest : count n ys ≡ 1 = ⊎_elim (λ same. absurd (omega (arith, one, here n y ys same, present n ys k a)))
    (λ other. sym (elsewhere n y ys other) ∙ one) (same_or_not y n) in
    ap suc (only n ys rest k j a b)

-- what stands nowhere doesn't count
nowhere : (n : ℕ) (ys : List ℕ) → ((j : ℕ) → slice_get ys j ≡ Some n → ⊥) → count n ys ≡ 0
nowhere n [] none = refl
nowhere n (y ∷ ys) none = elsewhere n y ys (λ e. none zero (ap Some e)) ∙ nowhere n ys (λ j e. none (suc j) e)

-- what stands at one place counts once
once : (n : ℕ) (ys : List ℕ) (k : ℕ) → slice_get ys k ≡ Some n → ((j : ℕ) → slice_get ys j ≡ Some n → j ≡ k) → count n ys ≡ 1
once n [] k a all = absurd (cc)
once n (y ∷ ys) zero a all = here n y ys (same_Some y n a) ∙ ap (λ c. 1 + c) (nowhere n ys (λ j b. absurd (omega (arith, all (suc j) b))))
once n (y ∷ ys) (suc k) a all =
    elsewhere n y ys (λ e. absurd (omega (arith, all zero (ap Some e)))) ∙ once n ys k a (λ j b. let e = all (suc j) b in omega arith)

-- one more input is counted
pub more_counted : (xs : List ℕ) (i x : ℕ) (old new : ℕ → Option ℕ) → i < length xs → x ≡ get_or xs i x → AreInputCounts (take i xs) old
    → ((q : ℕ) → new q ≡ cond (x == q) (Some (unwrap_or (old x) 0 + 1)) (old q)) → AreInputCounts (take (i + 1) xs) new
more_counted xs i x old new l is are put n = told (x == n) refl
  where
    step : count n (take (i + 1) xs) ≡ count n (take i xs) + cond (x == n) 1 0
    step = sum_by_more (λ m. cond (m == n) 1 0) xs i x l ∙ ap (λ y. count n (take i xs) + cond (y == n) 1 0) (sym is)

    told : (b : Bool) → (x == n) ≡ b → unwrap_or (new n) 0 ≡ count n (take (i + 1) xs)
    told true e =
        let same : x ≡ n = eqb-true x n e in
        ap (λ o. unwrap_or o 0) (put n ∙ ap (λ b. cond b (Some (unwrap_or (old x) 0 + 1)) (old n)) e)
        ∙ ap (λ m. m + 1) (are x ∙ ap (λ y. count y (take i xs)) same) ∙ sym (step ∙ ap (λ b. count n (take i xs) + cond b 1 0) e)
    told false e =
        ap (λ o. unwrap_or o 0) (put n ∙ ap (λ b. cond b (Some (unwrap_or (old x) 0 + 1)) (old n)) e)
        ∙ are n ∙ sym (step ∙ ap (λ b. count n (take i xs) + cond b 1 0) e ∙ add-zero (count n (take i xs)))

-- what is counted is at most how many inputs there are
pub few_counted : (xs : List ℕ) (i n : ℕ) (old : ℕ → Option ℕ) → AreInputCounts (take i xs) old → unwrap_or (old n) 0 ≤ i
few_counted xs i n old are = omega (arith, are n, count_by-le-length (λ m. m == n) (take i xs), length-take i xs)

-- what is counted as one counts 1
counted_one : (o : Option ℕ) → o ≡ Some 1 → unwrap_or o 0 ≡ 1
counted_one o e = ap (λ o. unwrap_or o 0) e

one_counted : (o : Option ℕ) → unwrap_or o 0 ≡ 1 → o ≡ Some 1
one_counted None e = absurd (cc)
one_counted (Some c) e = ap Some e

-- so what is counted of the inputs tells whether one of them stands alone
pub alone_told : (xs : List ℕ) (from place n : ℕ) (counts : ℕ → Option ℕ) (r : Bool) → from ≤ place → slice_get xs place ≡ Some n
    → AreInputCounts (drop from xs) counts → (IsTrue r ↔ (counts n ≡ Some 1)) → (IsTrue r ↔ IsAlone xs from place)
alone_told xs from place n counts r l at are told =
    let after : (j m : ℕ) → from ≤ j → slice_get xs j ≡ Some m → slice_get (drop from xs) (j - from) ≡ Some m =
    λ j m l e. get_drop xs from (j - from) ∙ ap (slice_get xs) (omega (arith, l)) ∙ e in (
      (λ t. record {
        is_input = l;
        alone = λ j m lj b a.
            let same : m ≡ n = same_Some m n (sym a ∙ at) in
            let e = only n (drop from xs) (sym (are n) ∙ counted_one (counts n) (told.0 t)) (place - from) (j - from) (after place n l at)
            (after j n lj (b ∙ ap Some same)) in
            omega (arith, e, l, lj);
      }),
      (λ h. told.1 (one_counted (counts n) (are n ∙ once n (drop from xs) (place - from) (after place n l at)
          (λ j b. let e = h.alone (from + j) n (omega arith) (sym (get_drop xs from j) ∙ b) at in omega (arith, e))))),
    )
