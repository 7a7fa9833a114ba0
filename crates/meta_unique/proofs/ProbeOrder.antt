-- The first 2 ^ j slots of a probe in 2 ^ j slots are all slots, each once.
use Rattle.std.proofs.Common.{◌≡◌, ℕ, ◌+◌, ◌-◌, ◌*◌, ◌/◌, ◌%◌, ◌^◌, ◌<◌, zero, suc, refl, sym, ap, ◌∙◌, subst, inl, inr, arith}
use Rattle.std.proofs.lemmas.Bool.{cases_lt}
use Rattle.std.proofs.lemmas.Nat.{mod-mul-add, pow_pos}
use Rattle.std.proofs.Math.Nat.{pow-succ', mod-lt, mul-div_cancel, div-add-mod}
use Rattle.meta_unique.specs.Probing.{slot_at, VisitsEach}

-- how far slot k of a probe is from its start: 1 + 2 + .. + k
pub sum_to : ℕ → ℕ
sum_to zero = 0
sum_to (suc k) = sum_to k + (k + 1)

twice : (k : ℕ) → 2 * sum_to k ≡ k * (k + 1)
unfolding sum_to
twice zero = refl
twice (suc k) = omega (arith, twice k)

half : (k : ℕ) → k * (k + 1) / 2 ≡ sum_to k
half k = omega (arith, twice k)

-- with m = k + 1 + d, place 2 * m - 1 - k is an odd number of times m away from place k
flip : (k d : ℕ) → sum_to (k + 1 + 2 * d) ≡ sum_to k + (2 * d + 1) * (k + 1 + d)
flip k d = omega (arith, twice (k + 1 + 2 * d), twice k)

-- a number is even or odd
pub data Parity (n : ℕ) : Type 0 where
  even : (u : ℕ) → n ≡ 2 * u → Parity n
  odd : (u : ℕ) → n ≡ 2 * u + 1 → Parity n

parity : (n : ℕ) → Parity n
parity zero = even 0 refl
parity (suc n) = elim (parity n) [ even u e ↦ odd u (omega arith) | odd u e ↦ even (u + 1) (omega arith) ]

-- a place below m is r away from the start, but for turns round m slots
record Hit (m r : ℕ) : Type 0 where
  k : ℕ
  turns : ℕ
  below : k < m
  lands : sum_to k ≡ r + turns * m

-- the places below m give those below 2 * m
even_turns : (k d r u m : ℕ) → m ≡ k + 1 + d → sum_to k ≡ r + (2 * u) * m → Hit (2 * m) r × Hit (2 * m) (r + m)
even_turns k d r u m e s = (
  record { k = k; turns = u; below = omega arith; lands = omega (arith, s) },
  record {
    k = k + 1 + 2 * d;
    turns = u + d;
    below = omega arith;
    lands = subst (λ w. sum_to (k + 1 + 2 * d) ≡ r + w + (u + d) * (2 * w)) (sym e)
        (omega (arith, flip k d, subst (λ w. sum_to k ≡ r + (2 * u) * w) e s));
  },
)

odd_turns : (k d r u m : ℕ) → m ≡ k + 1 + d → sum_to k ≡ r + (2 * u + 1) * m → Hit (2 * m) r × Hit (2 * m) (r + m)
odd_turns k d r u m e s = (
  record {
    k = k + 1 + 2 * d;
    turns = u + d + 1;
    below = omega arith;
    lands = subst (λ w. sum_to (k + 1 + 2 * d) ≡ r + (u + d + 1) * (2 * w)) (sym e)
        (omega (arith, flip k d, subst (λ w. sum_to k ≡ r + (2 * u + 1) * w) e s));
  },
  record { k = k; turns = u; below = omega arith; lands = omega (arith, s) },
)

hit_more : (m r : ℕ) → Hit m r → Hit (2 * m) r × Hit (2 * m) (r + m)
hit_more m r h = elim (parity h.turns) [
  | even u e ↦ even_turns h.k (m - (h.k + 1)) r u m (omega (arith, h.below)) (subst (λ t. sum_to h.k ≡ r + t * m) e h.lands)
  | odd u e ↦ odd_turns h.k (m - (h.k + 1)) r u m (omega (arith, h.below)) (subst (λ t. sum_to h.k ≡ r + t * m) e h.lands)
]

hits : (j r : ℕ) → r < 2 ^ j → Hit (2 ^ j) r
unfolding sum_to
hits zero r h = record { k = 0; turns = 0; below = omega arith; lands = omega arith }
hits (suc j) r h = subst (λ (m : ℕ). Hit m r) (sym (pow-succ' 2 j)) (elim (cases_lt r (2 ^ j)) [
  | inl low ↦ (hit_more (2 ^ j) r (hits j r low)).0
  | inr high ↦ subst (λ (q : ℕ). Hit (2 * 2 ^ j) q) (omega arith)
      ((hit_more (2 ^ j) (r - 2 ^ j) (hits j (r - 2 ^ j) (omega (arith, pow-succ' 2 j)))).1)
])

-- a place is below m, or it is place k, below m, flipped
data Fold (m a : ℕ) : Type 0 where
  low : a < m → Fold m a
  high : (k d : ℕ) → m ≡ k + 1 + d → a ≡ k + 1 + 2 * d → sum_to a ≡ sum_to k + (2 * d + 1) * m → Fold m a

fold_at : (m a k d : ℕ) → m ≡ k + 1 + d → a ≡ k + 1 + 2 * d → Fold m a
fold_at m a k d e f = high k d e f (subst (λ w. sum_to w ≡ sum_to k + (2 * d + 1) * m) (sym f)
    (subst (λ w. sum_to (k + 1 + 2 * d) ≡ sum_to k + (2 * d + 1) * w) (sym e) (flip k d)))

fold : (m a : ℕ) → a < 2 * m → Fold m a
fold m a h = elim (cases_lt a m) [ inl b ↦ low b | inr b ↦ fold_at m a (2 * m - 1 - a) (a - m) (omega arith) (omega arith) ]

-- an even number of turns is no odd number of turns
odd_even : (m t u : ℕ) → 0 < m → 2 * t * m ≡ (2 * u + 1) * m → ⊥
odd_even m t u h e =
    let f : 2 * t ≡ 2 * u + 1 = sym (mul-div_cancel (2 * t) h) ∙ ap (λ w. w / m) e ∙ mul-div_cancel (2 * u + 1) h in omega arith

-- no two places below m are alike, but for turns
Apart : ℕ → Type 0
Apart m = (a b t u : ℕ) → a < m → b < m → sum_to a + t * m ≡ sum_to b + u * m → a ≡ b

-- a place below m and a flipped one are no turns of 2 * m apart
crossed : (m a b t u k d : ℕ) → 0 < m → a ≡ k → sum_to b ≡ sum_to k + (2 * d + 1) * m → sum_to a + t * (2 * m) ≡ sum_to b + u * (2 * m) → ⊥
crossed m a b t u k d h e f s = let g : sum_to a ≡ sum_to k = ap sum_to e in odd_even m t (d + u) h (omega arith)

apart_more : (m : ℕ) → 0 < m → Apart m → Apart (2 * m)
unfolding Apart
apart_more m h ih a b t u la lb s = elim (fold m a la) [
  | low x ↦ elim (fold m b lb) [
    | low y ↦ ih a b (2 * t) (2 * u) x y (omega arith)
    | high k d e f g ↦ absurd (crossed m a b t u k d h (ih a k (2 * t) (2 * d + 1 + 2 * u) x (omega arith) (omega arith)) g s)
  ]
  | high k d e f g ↦ elim (fold m b lb) [
    | low y ↦ absurd (crossed m b a u t k d h (ih b k (2 * u) (2 * d + 1 + 2 * t) y (omega arith) (omega arith)) g (sym s))
    | high k' d' e' f' g' ↦ let same : k ≡ k' = ih k k' (2 * d + 1 + 2 * t) (2 * d' + 1 + 2 * u) (omega arith)
        (omega arith) (omega arith) in omega arith
  ]
]

apart_one : Apart 1
unfolding Apart
apart_one a b t u la lb s = omega arith

apart : (j : ℕ) → Apart (2 ^ j)
apart zero = apart_one
apart (suc j) = subst Apart (sym (pow-succ' 2 j)) (apart_more (2 ^ j) (pow_pos j) (apart j))

-- the slot of a place, as turns and a rest
slot_of : (n start k : ℕ) → slot_at n start k ≡ (start + sum_to k) % n
slot_of n start k = ap (λ w. (start + w) % n) (half k)

whole : (n x : ℕ) → n * (x / n) + x % n ≡ x
whole n x = div-add-mod x n

-- some place has the slot
reach : (n start slot : ℕ) → ((r : ℕ) → r < n → Hit n r) → slot < n → (k : ℕ) × (k < n) × (slot_at n start k ≡ slot)
reach n start slot each h = elim (cases_lt slot (start % n)) [
  | inl before ↦ let hit = each (slot + n - start % n) (omega (arith)) in (
    hit.k,
    hit.below,
    slot_of n start hit.k ∙ ap (λ w. w % n) (omega (arith, whole n start, hit.lands))
        ∙ mod-mul-add (start / n + hit.turns + 1) n slot h,
  )
  | inr after ↦ let hit = each (slot - start % n) (omega (arith)) in (
    hit.k,
    hit.below,
    slot_of n start hit.k ∙ ap (λ w. w % n) (omega (arith, whole n start, hit.lands))
        ∙ mod-mul-add (start / n + hit.turns) n slot h,
  )
]

-- places of one slot are turns apart
met_once : (n start j k : ℕ) → Apart n → j < n → k < n → slot_at n start j ≡ slot_at n start k → j ≡ k
unfolding Apart
met_once n start j k apart lj lk e =
    let same : (start + sum_to j) % n ≡ (start + sum_to k) % n = sym (slot_of n start j) ∙ e ∙ slot_of n start k in
    apart j k ((start + sum_to k) / n) ((start + sum_to j) / n) lj lk
    (omega (arith, whole n (start + sum_to j), whole n (start + sum_to k)))

pub visits : (j : ℕ) → VisitsEach (2 ^ j)
visits j = record {
  slots = λ start k. mod-lt (start + k * (k + 1) / 2) (pow_pos j);
  all = λ start slot h. reach (2 ^ j) start slot (hits j) h;
  once = λ start i k li lk e. met_once (2 ^ j) start i k (apart j) li lk e;
}
