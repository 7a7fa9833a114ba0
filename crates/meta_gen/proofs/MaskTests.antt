-- Which numbers are masks of widths, and of lane counts, by trying all of them.
use Rattle.std.proofs.Common.{◌≡◌, ◌<◌, ◌≤◌, ◌%◌, ◌==◌, ◌&&◌, ◌||◌, not, cond, ⊎_elim, ℕ, zero, suc, Bool, true, false, List, [], ◌∷◌, sum}
use Rattle.std.proofs.Common.{refl, sym, subst, arith}
use Rattle.std.specs.List.{filter}
use Rattle.std.proofs.lemmas.List.Sums.{sum_by-cons}
use Rattle.std.proofs.lemmas.Bool.{cases_eq, and_parts, eqb-true, eq-eqb}
use Rattle.meta_types.specs.TypeParts.{IntKind, FloatKind, widths, lane_counts}
use Rattle.meta_typevar.specs.MaskSets.{holds}
use Rattle.meta_typevar.proofs.Finite.{implies}
use Rattle.meta_gen.specs.MaskParts.{IsMaskOf}

-- the sum of some numbers of a list is at most that of all
some_more : (x : ℕ) (some all : List ℕ) (b : Bool) → sum some ≤ sum all → sum (cond b (x ∷ some) some) ≤ sum (x ∷ all)
some_more x some all true h =
    let more = sum_by-cons (λ (n : ℕ). n) x some in
    let whole = sum_by-cons (λ (n : ℕ). n) x all in
    let l : sum (x ∷ some) ≤ sum (x ∷ all) = omega (arith, more, whole, h) in
    l
some_more x some all false h =
    let whole = sum_by-cons (λ (n : ℕ). n) x all in
    let l : sum some ≤ sum (x ∷ all) = omega (arith, whole, h) in
    l

pub sum_some : (p : ℕ → Bool) (xs : List ℕ) → sum (filter p xs) ≤ sum xs
sum_some p [] = omega arith
sum_some p (x ∷ xs) = some_more x (filter p xs) xs (p x) (sum_some p xs)

-- the test passes below n
abbrev passes_below : ℕ → (ℕ → Bool) → Bool
passes_below zero p = true
passes_below (suc n) p = p n && passes_below n p

passes_at : (n : ℕ) (p : ℕ → Bool) → passes_below n p ≡ true → (k : ℕ) → k < n → p k ≡ true
passes_at zero p e k l = absurd (omega arith)
passes_at (suc n) p e k l =
    ⊎_elim
    (λ same. subst (λ (i : ℕ). p i ≡ true) (sym same) (and_parts _ _ e).0)
    (λ other. passes_at n p (and_parts _ _ e).1 k (omega (arith, l, other)))
    (cases_eq k n)

-- whether the number is the sum of those of the list that it holds
abbrev is_held : List ℕ → ℕ → Bool
is_held all n = n == sum (filter (holds n) all)

-- where a test and its converse pass below a bound, it tells there which numbers are masks
module _ (all : List ℕ) (bound : ℕ) (test : ℕ → Bool) (to : passes_below bound (λ n. not (test n) || is_held all n)
    ≡ true) (back : passes_below bound (λ n. not (is_held all n) || test n) ≡ true) (n : ℕ) (below : n < bound) where
  held_by : test n ≡ true → n ≡ sum (filter (holds n) all)
  held_by e = eqb-true _ _ (implies (test n) (is_held all n) (passes_at bound (λ n. not (test n) || is_held all n) to n below) e)

  told_by : n ≡ sum (filter (holds n) all) → test n ≡ true
  told_by e = implies (is_held all n) (test n) (passes_at bound (λ n. not (is_held all n) || test n) back n below) (eq-eqb _ _ e)

pub lanes_held : (n : ℕ) → n ≤ 511 → IsMaskOf (lane_counts false) n
lanes_held n l = held_by (lane_counts false) 512 (λ n. true) refl refl n (omega (arith, l)) refl

pub lanes_few : (n : ℕ) → IsMaskOf (lane_counts false) n → n ≤ 511
lanes_few n e = let h = sum_some (holds n) (lane_counts false) in omega (arith, e, h)

pub dynamic_held : (n : ℕ) → n ≤ 510 → n % 2 ≡ 0 → IsMaskOf (lane_counts true) n
dynamic_held n l even = held_by (lane_counts true) 511 (λ n. n % 2 == 0) refl refl n (omega (arith, l)) (eq-eqb _ _ even)

pub dynamic_few : (n : ℕ) → IsMaskOf (lane_counts true) n → n ≤ 510
dynamic_few n e = let h = sum_some (holds n) (lane_counts true) in omega (arith, e, h)

pub dynamic_even : (n : ℕ) → IsMaskOf (lane_counts true) n → n % 2 ≡ 0
dynamic_even n e = eqb-true _ _ (told_by (lane_counts true) 511 (λ n. n % 2 == 0) refl refl n
    (let l = dynamic_few n e in omega (arith, l)) e)

pub ints_held : (n : ℕ) → n < 256 → n % 8 ≡ 0 → IsMaskOf (widths IntKind) n
ints_held n l e = held_by (widths IntKind) 256 (λ n. n % 8 == 0) refl refl n l (eq-eqb _ _ e)

pub ints_told : (n : ℕ) → n < 256 → IsMaskOf (widths IntKind) n → n % 8 ≡ 0
ints_told n l e = eqb-true _ _ (told_by (widths IntKind) 256 (λ n. n % 8 == 0) refl refl n l e)

pub floats_held : (n : ℕ) → n < 256 → n % 16 ≡ 0 → IsMaskOf (widths FloatKind) n
floats_held n l e = held_by (widths FloatKind) 256 (λ n. n % 16 == 0) refl refl n l (eq-eqb _ _ e)

pub floats_told : (n : ℕ) → n < 256 → IsMaskOf (widths FloatKind) n → n % 16 ≡ 0
floats_told n l e = eqb-true _ _ (told_by (widths FloatKind) 256 (λ n. n % 16 == 0) refl refl n l e)
