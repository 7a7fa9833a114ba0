-- What can be decided: each fact, its negation, or both sides of an implication; of numbers, of lists, and at one type and at all of
-- them.
use Rattle.std.proofs.Common.{◌≡◌, ◌≤◌, ℕ, suc, ◌⊎◌, Bool, true, false, List, [], ◌∷◌, All, Contains, refl, sym, subst, inl, inr, ⊎_elim}
use Rattle.std.proofs.Common.{zero-lt-suc, suc-le-suc, arith}
use Rattle.std.proofs.lemmas.Bool.{cases_eq, cases_lt, false≢true}
use Rattle.std.proofs.lemmas.List.Elements.{All-nil, All-cons, All-head, All-tail}
use Rattle.meta_lists.proofs.Contained.{contains_cases}
use Rattle.meta_types.specs.TypeParts.{NumberKind, IntKind, FloatKind, TypeParts, IsType, widths, lane_counts}
use Rattle.meta_types.proofs.AllTypes.{same_parts, same_parts_true, same_parts_self}

-- the fact holds, or it doesn't
abbrev pub Decided : Type 0 → Type 0
Decided P = P ⊎ (P → ⊥)

-- a decided fact that can't be false holds
pub so : {P : Type 0} → Decided P → ((P → ⊥) → ⊥) → P
so (inl p) h = p
so (inr other) h = absurd (h other)

-- what holds exactly where a decided fact holds is decided
pub decided_like : {P Q : Type 0} → (P → Q) → (Q → P) → Decided P → Decided Q
decided_like to from (inl p) = inl (to p)
decided_like to from (inr other) = inr (λ q. other (from q))

-- two decided facts together
pub decided_both : {P Q : Type 0} → Decided P → Decided Q → Decided (P × Q)
decided_both (inl p) (inl q) = inl (p, q)
decided_both (inl p) (inr other) = inr (λ h. other h.1)
decided_both (inr other) q = inr (λ h. other h.0)

-- one decided fact under another
pub decided_if : {P Q : Type 0} → Decided P → Decided Q → Decided (P → Q)
decided_if p (inl q) = inl (λ _. q)
decided_if (inl p) (inr other) = inr (λ h. other (h p))
decided_if (inr not_p) (inr other) = inl (λ p. absurd (not_p p))

-- the negation of a decided fact
pub decided_not : {P : Type 0} → Decided P → Decided (P → ⊥)
decided_not (inl p) = inr (λ h. h p)
decided_not (inr other) = inl other

-- a Bool test
pub decided_test : (b : Bool) → Decided (b ≡ true)
decided_test true = inl refl
decided_test false = inr false≢true

-- one of two decided facts
pub decided_or : {P Q : Type 0} → Decided P → Decided Q → Decided (P ⊎ Q)
decided_or (inl p) q = inl (inl p)
decided_or (inr not_p) (inl q) = inl (inr q)
decided_or (inr not_p) (inr not_q) = inr (λ h. ⊎_elim not_p not_q h)

-- an order of numbers
pub decided_le : (a b : ℕ) → Decided (a ≤ b)
decided_le a b = ⊎_elim (λ l. inr (λ m. omega (arith, l, m))) (λ l. inl l) (cases_lt b a)

-- a fact of each element of a list
pub decided_each : {X : Type 0} (P : X → Type 0) → ((x : X) → Decided (P x)) → (xs : List X) → Decided (All P xs)
decided_each P at [] = inl (All-nil P)
decided_each P at (x ∷ xs) = decided_like (λ h. All-cons P x xs h.0 h.1) (λ h. (All-head P x xs h, All-tail P x xs h))
    (decided_both (at x) (decided_each P at xs))

-- a fact at some number that a list contains
pub decided_in : (P : ℕ → Type 0) → ((n : ℕ) → Decided (P n)) → (xs : List ℕ) → Decided ((n : ℕ) × Contains xs n × P n)
decided_in P at [] = inr (λ h. let l = h.1.1 in omega arith)
decided_in P at (x ∷ xs) = with_rest (at x) (decided_in P at xs)
  where
    -- it holds at neither the first nor the rest
    by_case : (n : ℕ) → (P x → ⊥) → ((n : ℕ) × Contains xs n × P n → ⊥) → P n → (x ≡ n) ⊎ Contains xs n → ⊥
    by_case n first rest p (inl e) = first (subst P (sym e) p)
    by_case n first rest p (inr c) = rest (n, c, p)

    -- at the first, or at one of the rest
    with_rest : Decided (P x) → Decided ((n : ℕ) × Contains xs n × P n) → Decided ((n : ℕ) × Contains (x ∷ xs) n × P n)
    with_rest (inl p) rest = inl (x, (0, zero-lt-suc _, refl), p)
    with_rest (inr first) (inl (n, c, p)) = inl (n, (suc c.0, suc-le-suc c.1, c.2), p)
    with_rest (inr first) (inr rest) = inr (λ h. by_case h.0 first rest h.2 (contains_cases x h.0 xs h.1))

-- membership of a list of numbers
pub decided_contains : (xs : List ℕ) (n : ℕ) → Decided (Contains xs n)
decided_contains [] n = inr (λ c. let l = c.1 in omega arith)
decided_contains (x ∷ xs) n = with_rest (cases_eq x n) (decided_contains xs n)
  where
    -- it is the first, or one of the rest
    with_rest : Decided (x ≡ n) → Decided (Contains xs n) → Decided (Contains (x ∷ xs) n)
    with_rest (inl e) rest = inl (0, zero-lt-suc _, e)
    with_rest (inr other) (inl c) = inl (suc c.0, suc-le-suc c.1, c.2)
    with_rest (inr other) (inr later) = inr (λ c. ⊎_elim other later (contains_cases x n xs c))

-- that parts are those of a type
pub decided_type : (t : TypeParts) → Decided (IsType t)
decided_type t = decided_like (λ h. record { width = h.0; lanes = h.1 }) (λ h. (h.width, h.lanes))
    (decided_both (decided_contains (widths t.kind) t.width) (decided_contains (lane_counts t.is_dynamic) t.lanes))

-- that the parts of two are the same
pub decided_same : (a b : TypeParts) → Decided (a ≡ b)
decided_same a b = decided_like (same_parts_true a b) (λ e. subst (λ x. same_parts a x ≡ true) e (same_parts_self a))
    (decided_test (same_parts a b))

module _ (P : TypeParts → Type 0) (at : (t : TypeParts) → Decided (P t)) where
  -- a fact at some type of a kind and a mark
  abbrev At : NumberKind → Bool → Type 0
  At kind mark = (w : ℕ) × Contains (widths kind) w
      × ((l : ℕ) × Contains (lane_counts mark) l × P (record { kind = kind; width = w; lanes = l; is_dynamic = mark }))

  -- it is decided
  at_kind : (kind : NumberKind) (mark : Bool) → Decided (At kind mark)
  at_kind kind mark =
      decided_in (λ w. (l : ℕ) × Contains (lane_counts mark) l × P (record { kind = kind; width = w; lanes = l; is_dynamic = mark }))
      (λ w. decided_in (λ l. P (record { kind = kind; width = w; lanes = l; is_dynamic = mark }))
      (λ l. at (record { kind = kind; width = w; lanes = l; is_dynamic = mark })) (lane_counts mark))
      (widths kind)

  -- at some type of some kind and mark
  abbrev Anywhere : Type 0
  Anywhere = (At IntKind false ⊎ At IntKind true) ⊎ (At FloatKind false ⊎ At FloatKind true)

  -- a type of a kind and a mark is one of some
  anywhere : (kind : NumberKind) (mark : Bool) → At kind mark → Anywhere
  anywhere IntKind false h = inl (inl h)
  anywhere IntKind true h = inl (inr h)
  anywhere FloatKind false h = inr (inl h)
  anywhere FloatKind true h = inr (inr h)

  -- a type of a kind and a mark is a type
  found : (kind : NumberKind) (mark : Bool) → At kind mark → (t : TypeParts) × IsType t × P t
  found kind mark (w, c, (l, d, p)) = (record { kind = kind; width = w; lanes = l; is_dynamic = mark }, record { width = c; lanes = d }, p)

  -- A fact at some type.
  pub decided_some : Decided ((t : TypeParts) × IsType t × P t)
  decided_some = decided_like
      (λ h. ⊎_elim (λ x. ⊎_elim (found IntKind false) (found IntKind true) x)
      (λ x. ⊎_elim (found FloatKind false) (found FloatKind true) x) h)
      (λ h. anywhere h.0.kind h.0.is_dynamic (h.0.width, h.1.width, (h.0.lanes, h.1.lanes, h.2)))
      (decided_or (decided_or (at_kind IntKind false) (at_kind IntKind true))
      (decided_or (at_kind FloatKind false) (at_kind FloatKind true)))

-- A fact at each type.
pub decided_all : (P : TypeParts → Type 0) → ((t : TypeParts) → Decided (P t)) → Decided ((t : TypeParts) → IsType t → P t)
decided_all P at = by_case (decided_some (λ t. P t → ⊥) (λ t. decided_not (at t)))
  where
    -- it fails at some type, or at none
    by_case : Decided ((t : TypeParts) × IsType t × (P t → ⊥)) → Decided ((t : TypeParts) → IsType t → P t)
    by_case (inl (t, is, other)) = inr (λ h. other (h t is))
    by_case (inr nowhere) = inl (λ t is. so (at t) (λ other. nowhere (t, is, other)))
