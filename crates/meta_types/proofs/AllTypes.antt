-- A Bool test at all 153 types. Of types alone: nothing here speaks of sets, variables or instructions.
--     at_all p               p passes at each of them
--     at_all_types           what passes at each of them passes at each type
use Rattle.std.proofs.Common.{◌≡◌, ℕ, ◌==◌, Bool, true, false, ◌&&◌, List, [], ◌∷◌, Contains, refl, subst, arith, inl, inr, ◌⊎◌}
use Rattle.std.proofs.lemmas.Bool.{and_parts, and_from, eqb-true, eq-eqb}
use Rattle.meta_lists.proofs.Contained.{contains_cases}
use Rattle.meta_types.specs.TypeParts.{NumberKind, IntKind, FloatKind, TypeParts, IsType, widths, lane_counts}
use Rattle.meta_types.specs.Function.{same_kind, same_mark}

-- p passes at each number of the list
abbrev pub at_each : (ℕ → Bool) → List ℕ → Bool
at_each p [] = true
at_each p (x ∷ xs) = p x && at_each p xs

-- p passes at each type of this kind and mark
abbrev pub at_kind_and_mark : (TypeParts → Bool) → NumberKind → Bool → Bool
at_kind_and_mark p kind mark =
    at_each (λ w. at_each (λ l. p (record { kind = kind; width = w; lanes = l; is_dynamic = mark })) (lane_counts mark)) (widths kind)

-- p passes at each type
abbrev pub at_all : (TypeParts → Bool) → Bool
at_all p = (at_kind_and_mark p IntKind false && at_kind_and_mark p IntKind true)
    && (at_kind_and_mark p FloatKind false && at_kind_and_mark p FloatKind true)

-- what passes at each number of a list passes at what the list contains
pub at_each_contained : (p : ℕ → Bool) (xs : List ℕ) (n : ℕ) → at_each p xs ≡ true → Contains xs n → p n ≡ true
at_each_contained p [] n all (k, l, e) = absurd (omega arith)
at_each_contained p (x ∷ xs) n all c = by_case (and_parts (p x) (at_each p xs) all) (contains_cases x n xs c) (at_each_contained p xs n)
  where
    -- it is the first, or one of the rest
    by_case : (p x ≡ true) × (at_each p xs ≡ true) → (x ≡ n) ⊎ Contains xs n
        → (at_each p xs ≡ true → Contains xs n → p n ≡ true) → p n ≡ true
    by_case (first, rest) (inl e) below = subst (λ y. p y ≡ true) e first
    by_case (first, rest) (inr c) below = below rest c

-- what passes at each type of a kind and mark passes at those of its widths and lane counts
at_kind_and_mark_parts : (p : TypeParts → Bool) (kind : NumberKind) (mark : Bool) (w l : ℕ)
    → at_kind_and_mark p kind mark ≡ true → Contains (widths kind) w → Contains (lane_counts mark) l
    → p (record { kind = kind; width = w; lanes = l; is_dynamic = mark }) ≡ true
at_kind_and_mark_parts p kind mark w l all c d =
    at_each_contained (λ m. p (record { kind = kind; width = w; lanes = m; is_dynamic = mark })) (lane_counts mark) l
    (at_each_contained (λ n. at_each (λ m. p (record { kind = kind; width = n; lanes = m; is_dynamic = mark }))
    (lane_counts mark)) (widths kind) w all c) d

-- the tests of all kinds and marks give that of each
at_all_parts : (p : TypeParts → Bool) → at_all p ≡ true → (kind : NumberKind) (mark : Bool) → at_kind_and_mark p kind mark ≡ true
at_all_parts p all IntKind false = (and_parts _ _ (and_parts _ _ all).0).0
at_all_parts p all IntKind true = (and_parts _ _ (and_parts _ _ all).0).1
at_all_parts p all FloatKind false = (and_parts _ _ (and_parts _ _ all).1).0
at_all_parts p all FloatKind true = (and_parts _ _ (and_parts _ _ all).1).1

-- what passes at each of them passes at each type
pub at_all_types : (p : TypeParts → Bool) → at_all p ≡ true → (t : TypeParts) → IsType t → p t ≡ true
at_all_types p all t h = at_kind_and_mark_parts p t.kind t.is_dynamic t.width t.lanes
    (at_all_parts p all t.kind t.is_dynamic) h.width h.lanes

-- the two types are one
abbrev pub same_parts : TypeParts → TypeParts → Bool
same_parts a b = (same_kind a.kind b.kind && a.width == b.width) && (a.lanes == b.lanes && same_mark a.is_dynamic b.is_dynamic)

-- kinds that pass their test are one
pub same_kind_true : (a b : NumberKind) → same_kind a b ≡ true → a ≡ b
same_kind_true IntKind IntKind e = refl
same_kind_true IntKind FloatKind e = absurd (cc)
same_kind_true FloatKind IntKind e = absurd (cc)
same_kind_true FloatKind FloatKind e = refl

-- marks that pass their test are one
pub same_mark_true : (a b : Bool) → same_mark a b ≡ true → a ≡ b
same_mark_true true true e = refl
same_mark_true true false e = absurd (cc)
same_mark_true false true e = absurd (cc)
same_mark_true false false e = refl

-- types that pass their test are one
pub same_parts_true : (a b : TypeParts) → same_parts a b ≡ true → a ≡ b
same_parts_true a b e =
    let front = and_parts _ _ e in
    let (kind, width) = and_parts (same_kind a.kind b.kind) (a.width == b.width) front.0 in
    let (lanes, mark) = and_parts (a.lanes == b.lanes) (same_mark a.is_dynamic b.is_dynamic) front.1 in
    let k = same_kind_true a.kind b.kind kind in
    let w = eqb-true a.width b.width width in
    let l = eqb-true a.lanes b.lanes lanes in
    let m = same_mark_true a.is_dynamic b.is_dynamic mark in
    λ i. record { kind = k i; width = w i; lanes = l i; is_dynamic = m i }

-- a kind passes its test beside itself
same_kind_self : (k : NumberKind) → same_kind k k ≡ true
same_kind_self IntKind = refl
same_kind_self FloatKind = refl

-- so does a mark
same_mark_self : (m : Bool) → same_mark m m ≡ true
same_mark_self true = refl
same_mark_self false = refl

-- so does a type
pub same_parts_self : (t : TypeParts) → same_parts t t ≡ true
same_parts_self t =
    and_from _ _ (and_from _ _ (same_kind_self t.kind) (eq-eqb t.width t.width refl))
    (and_from _ _ (eq-eqb t.lanes t.lanes refl) (same_mark_self t.is_dynamic))
