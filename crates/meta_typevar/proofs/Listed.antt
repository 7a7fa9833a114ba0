-- The members of a set in order: how many there are, that they are all there, and each once.
use Rattle.std.proofs.Common.{◌≡◌, ℕ, ◌+◌, ◌*◌, ◌==◌, ◌&&◌, ◌↔◌, ◌⊎◌, inl, inr, ⊎_elim, Bool, true, false, not, cond, List, [], ◌∷◌, ◌++◌}
use Rattle.std.proofs.Common.{length, ap, ◌∙◌, sym, subst, refl, zero, suc, arith, Contains, length-append}
use Rattle.std.specs.Prelude.{slice_get, Some}
use Rattle.std.specs.List.{filter, flat_map}
use Rattle.std.proofs.lemmas.Bool.{false≢true, eq-eqb, and_parts}
use Rattle.std.proofs.lemmas.List.{length-map}
use Rattle.std.proofs.Math.Nat.{add-mul, suc-mul}
use Rattle.meta_types.specs.TypeParts.{NumberKind, IntKind, FloatKind, TypeParts, widths, lane_counts}
use Rattle.meta_types.proofs.Among.{Among, among, contains}
use Rattle.meta_typevar.specs.TypeSetParts.{TypeSetParts, widths_in, lanes_in, IsMember, IsPart, IsTypeSet}
use Rattle.meta_typevar.specs.Concrete.{types_of, types_at, types_in}
use Rattle.meta_typevar.proofs.Finite.{all_in, all_in_at, among_filter}
use Rattle.meta_typevar.proofs.MaskLemmas.{members}
use Rattle.meta_typevar.proofs.Size.{kinds_differ, widths_part, lanes_part, part_contains}

-- how many
length_at : (s : TypeSetParts) (b : Bool) (n : ℕ) → length (types_at s b n) ≡ length s.ints + length s.floats
length_at s b n = length-append (types_of IntKind b n s.ints) (types_of FloatKind b n s.floats)
    ∙ (λ i. length-map {B = TypeParts} s.ints (λ (w : ℕ). record { kind = IntKind; width = w; lanes = n; is_dynamic = b }) i
    + length-map {B = TypeParts} s.floats (λ (w : ℕ). record { kind = FloatKind; width = w; lanes = n; is_dynamic = b }) i)

length_all : (s : TypeSetParts) (b : Bool) (xs : List ℕ) → length (flat_map (types_at s b) xs)
    ≡ length xs * (length s.ints + length s.floats)
length_all s b [] = omega arith
length_all s b (x ∷ xs) =
    let e = length-append (types_at s b x) (flat_map (types_at s b) xs) in
    let a = length_at s b x in
    let r = length_all s b xs in
    let m = suc-mul (length xs) (length s.ints + length s.floats) in
    omega (arith, e, a, r, m)

pub length_in : (s : TypeSetParts) → length (types_in s) ≡ members s
length_in s =
    length-append (flat_map (types_at s false) s.lanes) (flat_map (types_at s true) s.dynamic_lanes)
    ∙ (λ i. length_all s false s.lanes i + length_all s true s.dynamic_lanes i)
    ∙ sym (add-mul (length s.lanes) (length s.dynamic_lanes) (length s.ints + length s.floats))

-- t is one of the list, by cases
abbrev In : List TypeParts → TypeParts → Type 0
In [] t = ⊥
In (u ∷ us) t = (t ≡ u) ⊎ In us t

in_contained : (us : List TypeParts) (t : TypeParts) → Contains us t → In us t
in_contained [] t (k, l, e) = absurd (omega arith)
in_contained (u ∷ us) t (zero, l, e) = inl (sym e)
in_contained (u ∷ us) t (suc k, l, e) = inr (in_contained us t (k, omega arith, e))

contains_in : (us : List TypeParts) (t : TypeParts) → In us t → Contains us t
contains_in [] t h = absurd h
contains_in (u ∷ us) t (inl e) = (0, omega arith, sym e)
contains_in (u ∷ us) t (inr h) = let r = contains_in us t h in (suc r.0, omega (arith, r.1), r.2)

in_cases : (us vs : List TypeParts) (t : TypeParts) → In (us ++ vs) t → In us t ⊎ In vs t
in_cases [] vs t h = inr h
in_cases (u ∷ us) vs t (inl e) = inl (inl e)
in_cases (u ∷ us) vs t (inr h) = ⊎_elim (λ a. inl (inr a)) (λ b. inr b) (in_cases us vs t h)

in_left : (us vs : List TypeParts) (t : TypeParts) → In us t → In (us ++ vs) t
in_left [] vs t h = absurd h
in_left (u ∷ us) vs t (inl e) = inl e
in_left (u ∷ us) vs t (inr h) = inr (in_left us vs t h)

in_right : (us vs : List TypeParts) (t : TypeParts) → In vs t → In (us ++ vs) t
in_right [] vs t h = h
in_right (u ∷ us) vs t h = inr (in_right us vs t h)

-- the types of a kind with this count of lanes
in_widths : (k : NumberKind) (b : Bool) (n : ℕ) (xs : List ℕ) (t : TypeParts) → In (types_of k b n xs) t
    → (t.kind ≡ k) × (t.is_dynamic ≡ b) × (t.lanes ≡ n) × Among xs t.width
in_widths k b n [] t h = absurd h
in_widths k b n (x ∷ xs) t (inl e) = (λ i. (e i).kind, λ i. (e i).is_dynamic, λ i. (e i).lanes, inl (λ i. (e i).width))
in_widths k b n (x ∷ xs) t (inr h) = let r = in_widths k b n xs t h in (r.0, r.1, r.2, inr r.3)

has_width : (k : NumberKind) (b : Bool) (n : ℕ) (xs : List ℕ) (w : ℕ) → Among xs w
    → In (types_of k b n xs) (record { kind = k; width = w; lanes = n; is_dynamic = b })
has_width k b n [] w h = absurd h
has_width k b n (x ∷ xs) w (inl e) = inl (λ i. record { kind = k; width = e i; lanes = n; is_dynamic = b })
has_width k b n (x ∷ xs) w (inr h) = inr (has_width k b n xs w h)

-- the types with this count of lanes
in_lanes : (s : TypeSetParts) (b : Bool) (n : ℕ) (t : TypeParts) → In (types_at s b n) t
    → (t.is_dynamic ≡ b) × (t.lanes ≡ n) × Among (widths_in s t.kind) t.width
in_lanes s b n t h =
    ⊎_elim (of_kind IntKind) (of_kind FloatKind) (in_cases (types_of IntKind b n s.ints) (types_of FloatKind b n s.floats) t h)
  where
    of_kind : (k : NumberKind) → In (types_of k b n (widths_in s k)) t → (t.is_dynamic ≡ b) × (t.lanes ≡ n)
        × Among (widths_in s t.kind) t.width
    of_kind k h =
        let r = in_widths k b n (widths_in s k) t h in
        (r.1, r.2, subst (λ (l : NumberKind). Among (widths_in s l) t.width) (sym r.0) r.3)

has_lanes : (s : TypeSetParts) (b : Bool) (n : ℕ) (k : NumberKind) (w : ℕ) → Among (widths_in s k) w
    → In (types_at s b n) (record { kind = k; width = w; lanes = n; is_dynamic = b })
has_lanes s b n IntKind w h = in_left (types_of IntKind b n s.ints) (types_of FloatKind b n s.floats) _ (has_width IntKind b n s.ints w h)
has_lanes s b n FloatKind w h =
    in_right (types_of IntKind b n s.ints) (types_of FloatKind b n s.floats) _ (has_width FloatKind b n s.floats w h)

-- the types with one of these lane counts
in_counts : (s : TypeSetParts) (b : Bool) (xs : List ℕ) (t : TypeParts) → In (flat_map (types_at s b) xs) t
    → (t.is_dynamic ≡ b) × Among xs t.lanes × Among (widths_in s t.kind) t.width
in_counts s b [] t h = absurd h
in_counts s b (x ∷ xs) t h = ⊎_elim here (λ i. later (in_counts s b xs t i)) (in_cases (types_at s b x) (flat_map (types_at s b) xs) t h)
  where
    here : In (types_at s b x) t → (t.is_dynamic ≡ b) × Among (x ∷ xs) t.lanes × Among (widths_in s t.kind) t.width
    here h = let r = in_lanes s b x t h in (r.0, inl r.1, r.2)

    later : (t.is_dynamic ≡ b) × Among xs t.lanes × Among (widths_in s t.kind) t.width
        → (t.is_dynamic ≡ b) × Among (x ∷ xs) t.lanes × Among (widths_in s t.kind) t.width
    later r = (r.0, inr r.1, r.2)

has_counts : (s : TypeSetParts) (b : Bool) (xs : List ℕ) (k : NumberKind) (w n : ℕ) → Among xs n → Among (widths_in s k) w
    → In (flat_map (types_at s b) xs) (record { kind = k; width = w; lanes = n; is_dynamic = b })
has_counts s b [] k w n h a = absurd h
has_counts s b (x ∷ xs) k w n (inl e) a =
    subst (λ (m : ℕ). In (flat_map (types_at s b) (x ∷ xs)) (record { kind = k; width = w; lanes = m; is_dynamic = b })) (sym e)
    (in_left (types_at s b x) (flat_map (types_at s b) xs) _ (has_lanes s b x k w a))
has_counts s b (x ∷ xs) k w n (inr h) a = in_right (types_at s b x) (flat_map (types_at s b) xs) _ (has_counts s b xs k w n h a)

-- the members
in_types : (s : TypeSetParts) (t : TypeParts) → In (types_in s) t → Among (lanes_in s t.is_dynamic) t.lanes
    × Among (widths_in s t.kind) t.width
in_types s t h =
    ⊎_elim (of_mark false) (of_mark true) (in_cases (flat_map (types_at s false) s.lanes) (flat_map (types_at s true) s.dynamic_lanes) t h)
  where
    of_mark : (b : Bool) → In (flat_map (types_at s b) (lanes_in s b)) t → Among (lanes_in s t.is_dynamic) t.lanes
        × Among (widths_in s t.kind) t.width
    of_mark b h =
        let r = in_counts s b (lanes_in s b) t h in
        (subst (λ (c : Bool). Among (lanes_in s c) t.lanes) (sym r.0) r.1, r.2)

has_type : (s : TypeSetParts) (b : Bool) (k : NumberKind) (w n : ℕ) → Among (lanes_in s b) n → Among (widths_in s k) w
    → In (types_in s) (record { kind = k; width = w; lanes = n; is_dynamic = b })
has_type s false k w n h a = in_left (flat_map (types_at s false) s.lanes) (flat_map (types_at s true) s.dynamic_lanes) _
    (has_counts s false s.lanes k w n h a)
has_type s true k w n h a = in_right (flat_map (types_at s false) s.lanes) (flat_map (types_at s true) s.dynamic_lanes) _
    (has_counts s true s.dynamic_lanes k w n h a)

pub listed_members : (s : TypeSetParts) → IsTypeSet s → (t : TypeParts) → (Contains (types_in s) t ↔ IsMember s t)
listed_members s h t = (
  λ c.
      let r = in_types s t (in_contained (types_in s) t c) in
      record {
        is_type = record {
          width = part_contains _ _ (widths_part s h t.kind) t.width r.1;
          lanes = part_contains _ _ (lanes_part s h t.is_dynamic) t.lanes r.0;
        };
        width = contains _ _ r.1;
        lanes = contains _ _ r.0;
      },
  λ m. contains_in (types_in s) t (has_type s t.is_dynamic t.kind t.width t.lanes (among _ _ m.lanes) (among _ _ m.width)),
)

-- no number of the list stands there again, and no type
abbrev Apart : List ℕ → Type 0
Apart [] = Unit {0}
Apart (x ∷ xs) = (Among xs x → ⊥) × Apart xs

abbrev Distinct : List TypeParts → Type 0
Distinct [] = Unit {0}
Distinct (u ∷ us) = (In us u → ⊥) × Distinct us

abbrev differs : List ℕ → Bool
differs [] = true
differs (x ∷ xs) = all_in xs (λ y. not (x == y)) && differs xs

apart : (xs : List ℕ) → differs xs ≡ true → Apart xs
apart [] e = tt
apart (x ∷ xs) e =
    let r = and_parts _ _ e in
    (λ h. false≢true (sym (ap not (eq-eqb x x refl)) ∙ all_in_at xs (λ y. not (x == y)) r.0 x h), apart xs r.1)

apart_filter : (p : ℕ → Bool) (xs : List ℕ) → Apart xs → Apart (filter p xs)
apart_filter p [] d = tt
apart_filter p (x ∷ xs) d = elim (p x) as (λ b. Apart (cond b (x ∷ filter p xs) (filter p xs))) [
  | true ↦ (λ h. d.0 (among_filter p xs x h).0, apart_filter p xs d.1)
  | false ↦ apart_filter p xs d.1
]

apart_part : (xs all : List ℕ) → differs all ≡ true → IsPart xs all → Apart xs
apart_part xs all e h = subst Apart (sym h.is) (apart_filter h.test all (apart all e))

distinct_append : (us vs : List TypeParts) → Distinct us → Distinct vs → ((t : TypeParts) → In us t → In vs t → ⊥) → Distinct (us ++ vs)
distinct_append [] vs d e none = e
distinct_append (u ∷ us) vs d e none = (
  λ h. ⊎_elim (λ a. d.0 a) (λ b. none u (inl refl) b) (in_cases us vs u h),
  distinct_append us vs d.1 e (λ t a b. none t (inr a) b),
)

distinct_widths : (k : NumberKind) (b : Bool) (n : ℕ) (xs : List ℕ) → Apart xs → Distinct (types_of k b n xs)
distinct_widths k b n [] d = tt
distinct_widths k b n (x ∷ xs) d = (λ h. d.0 (in_widths k b n xs _ h).3, distinct_widths k b n xs d.1)

distinct_lanes : (s : TypeSetParts) (b : Bool) (n : ℕ) → Apart s.ints → Apart s.floats → Distinct (types_at s b n)
distinct_lanes s b n d e =
    distinct_append (types_of IntKind b n s.ints) (types_of FloatKind b n s.floats) (distinct_widths IntKind b n s.ints d)
    (distinct_widths FloatKind b n s.floats e)
    (λ t h i. kinds_differ (sym (in_widths IntKind b n s.ints t h).0 ∙ (in_widths FloatKind b n s.floats t i).0))

distinct_counts : (s : TypeSetParts) (b : Bool) (xs : List ℕ) → Apart s.ints → Apart s.floats → Apart xs
    → Distinct (flat_map (types_at s b) xs)
distinct_counts s b [] d e a = tt
distinct_counts s b (x ∷ xs) d e a =
    distinct_append (types_at s b x) (flat_map (types_at s b) xs) (distinct_lanes s b x d e) (distinct_counts s b xs d e a.1)
    (λ t h i. a.0 (subst (Among xs) (in_lanes s b x t h).1 (in_counts s b xs t i).1))

distinct_types : (s : TypeSetParts) → IsTypeSet s → Distinct (types_in s)
distinct_types s h =
    let d = apart_part s.ints (widths IntKind) refl h.ints in
    let e = apart_part s.floats (widths FloatKind) refl h.floats in
    distinct_append (flat_map (types_at s false) s.lanes) (flat_map (types_at s true) s.dynamic_lanes)
    (distinct_counts s false s.lanes d e (apart_part s.lanes (lane_counts false) refl h.lanes))
    (distinct_counts s true s.dynamic_lanes d e (apart_part s.dynamic_lanes (lane_counts true) refl h.dynamic_lanes))
    (λ t a b. false≢true (sym (in_counts s false s.lanes t a).0 ∙ (in_counts s true s.dynamic_lanes t b).0))

get_in : (us : List TypeParts) (j : ℕ) (t : TypeParts) → slice_get us j ≡ Some t → In us t
get_in [] j t e = (cc)
get_in (u ∷ us) zero t e = let s : u ≡ t = (cc) in inl (sym s)
get_in (u ∷ us) (suc j) t e = inr (get_in us j t e)

same_place : (us : List TypeParts) → Distinct us → (j k : ℕ) (t : TypeParts) → slice_get us j ≡ Some t → slice_get us k ≡ Some t → j ≡ k
same_place [] d j k t a b = (cc)
same_place (u ∷ us) d zero zero t a b = refl
same_place (u ∷ us) d zero (suc k) t a b = let s : u ≡ t = (cc) in absurd (d.0 (subst (In us) (sym s) (get_in us k t b)))
same_place (u ∷ us) d (suc j) zero t a b = let s : u ≡ t = (cc) in absurd (d.0 (subst (In us) (sym s) (get_in us j t a)))
same_place (u ∷ us) d (suc j) (suc k) t a b = ap suc (same_place us d.1 j k t a b)

pub listed_once : (s : TypeSetParts) → IsTypeSet s → (j k : ℕ) (t : TypeParts) → slice_get (types_in s) j ≡ Some t
    → slice_get (types_in s) k ≡ Some t → j ≡ k
listed_once s h = same_place (types_in s) (distinct_types s h)
