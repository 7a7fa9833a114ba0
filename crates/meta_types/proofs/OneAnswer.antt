-- A derived function leads from a type to at most one type.
use Rattle.std.proofs.Common.{Bool, Contains, subst, ◌&&◌, ◌||◌, ◌==◌, not, nat_lt, ◌≡◌, ◌<◌, ℕ, ◌*◌, ◌/◌, false, true, if◌then◌else◌, refl}
use Rattle.std.proofs.Common.{sym, ◌∙◌, ap, arith, ⊎_elim}
use Rattle.std.proofs.lemmas.Bool.{and_parts, and_from, or_cases, eqb-true, ltb-true, ltb-false, not-true, false≢true}
use Rattle.meta_types.specs.TypeParts.{NumberKind, IntKind, TypeParts, IsType, lane_counts, scalar}
use Rattle.meta_types.specs.Function.{Function, LaneOf, AsTruthy, HalfWidth, DoubleWidth, SplitLanes, MergeLanes, DynamicToVector, Narrower}
use Rattle.meta_types.specs.Function.{Wider, Answers, is_scalar, same_kind, same_mark}
use Rattle.meta_types.proofs.AllTypes.{at_each_contained, same_kind_true, same_mark_true}

-- the parts of the one type to which f may lead from u
abbrev pub candidate : Function → TypeParts → TypeParts
candidate LaneOf u = scalar u.kind u.width
candidate AsTruthy u = record { kind = IntKind; width = (if is_scalar u then 8 else u.width); lanes = u.lanes; is_dynamic = u.is_dynamic }
candidate HalfWidth u = record { kind = u.kind; width = u.width / 2; lanes = u.lanes; is_dynamic = u.is_dynamic }
candidate DoubleWidth u = record { kind = u.kind; width = 2 * u.width; lanes = u.lanes; is_dynamic = u.is_dynamic }
candidate SplitLanes u = record { kind = u.kind; width = u.width / 2; lanes = 2 * u.lanes; is_dynamic = u.is_dynamic }
candidate MergeLanes u = record { kind = u.kind; width = 2 * u.width; lanes = u.lanes / 2; is_dynamic = u.is_dynamic }
candidate DynamicToVector u = record { kind = u.kind; width = u.width; lanes = u.lanes; is_dynamic = false }
candidate Narrower u = u
candidate Wider u = u

-- a type of these parts
with_parts : (t : TypeParts) (kind : NumberKind) (width lanes : ℕ) (mark : Bool) → t.kind ≡ kind → t.width ≡ width → t.lanes ≡ lanes
    → t.is_dynamic ≡ mark → t ≡ record { kind = kind; width = width; lanes = lanes; is_dynamic = mark }
with_parts t kind width lanes mark k w l m = λ i. record { kind = k i; width = w i; lanes = l i; is_dynamic = m i }

-- what has one lane isn't dynamic
one_lane_mark : (mark : Bool) (n : ℕ) → Contains (lane_counts mark) n → n ≡ 1 → mark ≡ false
one_lane_mark false n h e = refl
one_lane_mark true n h e =
    absurd (false≢true (ap (λ m. not (m == 1)) (sym e) ∙ at_each_contained (λ m. not (m == 1)) (lane_counts true) n refl h))

half_of : (a b : ℕ) → 2 * a ≡ b → a ≡ b / 2
half_of a b e = omega arith

-- four tests that pass together
all_four : (a b c d : Bool) → (a && (b && (c && d))) ≡ true → (a ≡ true) × (b ≡ true) × (c ≡ true) × (d ≡ true)
all_four a b c d e =
    let (first, more) = and_parts a (b && (c && d)) e in
    let (second, rest) = and_parts b (c && d) more in
    let (third, fourth) = and_parts c d rest in
    (first, second, third, fourth)

-- the truth value of a scalar, and of a vector
truthy_scalar : (u t : TypeParts) → IsType u → IsType t → t.kind ≡ IntKind → (is_scalar u && (is_scalar t && t.width == 8)) ≡ true
    → t ≡ candidate AsTruthy u
truthy_scalar u t from to kind e =
    let (of_u, rest) = and_parts (is_scalar u) (is_scalar t && t.width == 8) e in
    let (of_t, width) = and_parts (is_scalar t) (t.width == 8) rest in
    let one_u = eqb-true u.lanes 1 of_u in
    let one_t = eqb-true t.lanes 1 of_t in
    with_parts t IntKind _ _ _ kind
    (eqb-true t.width 8 width ∙ ap (λ b. if b then 8 else u.width) (sym of_u))
    (one_t ∙ sym one_u)
    (one_lane_mark t.is_dynamic t.lanes to.lanes one_t ∙ sym (one_lane_mark u.is_dynamic u.lanes from.lanes one_u))

truthy_vector : (u t : TypeParts) → t.kind ≡ IntKind
    → (not (is_scalar u) && (t.width == u.width && (t.lanes == u.lanes && same_mark t.is_dynamic u.is_dynamic))) ≡ true
    → t ≡ candidate AsTruthy u
truthy_vector u t kind e =
    let (several, width, lanes, mark) =
    all_four (not (is_scalar u)) (t.width == u.width) (t.lanes == u.lanes) (same_mark t.is_dynamic u.is_dynamic) e in
    with_parts t IntKind _ _ _ kind
    (eqb-true t.width u.width width ∙ ap (λ b. if b then 8 else u.width) (sym (not-true (is_scalar u) several)))
    (eqb-true t.lanes u.lanes lanes)
    (same_mark_true t.is_dynamic u.is_dynamic mark)

-- an answer has those parts
pub only : (f : Function) (u t : TypeParts) → Answers f u t → t ≡ candidate f u
only LaneOf u t h =
    let (kind, rest) = and_parts (same_kind t.kind u.kind) (t.width == u.width && is_scalar t) h.steps.relates in
    let (width, alone) = and_parts (t.width == u.width) (is_scalar t) rest in
    let lanes = eqb-true t.lanes 1 alone in
    with_parts t _ _ _ _ (same_kind_true t.kind u.kind kind) (eqb-true t.width u.width width) lanes
    (one_lane_mark t.is_dynamic t.lanes h.steps.to.lanes lanes)
only AsTruthy u t h =
    let (kind, rest) = and_parts (same_kind t.kind IntKind) ((is_scalar u && (is_scalar t && t.width == 8)) ||
    (not (is_scalar u) && (t.width == u.width && (t.lanes == u.lanes && same_mark t.is_dynamic u.is_dynamic)))) h.steps.relates in
    ⊎_elim
    (truthy_scalar u t h.steps.from h.steps.to (same_kind_true t.kind IntKind kind))
    (truthy_vector u t (same_kind_true t.kind IntKind kind))
    (or_cases (is_scalar u && (is_scalar t && t.width == 8))
    (not (is_scalar u) && (t.width == u.width && (t.lanes == u.lanes && same_mark t.is_dynamic u.is_dynamic))) rest)
only HalfWidth u t h =
    let (kind, width, lanes, mark) = all_four (same_kind t.kind u.kind) (2 * t.width == u.width) (t.lanes == u.lanes)
    (same_mark t.is_dynamic u.is_dynamic) h.steps.relates in
    with_parts t _ _ _ _ (same_kind_true t.kind u.kind kind) (half_of t.width u.width (eqb-true (2 * t.width) u.width width))
    (eqb-true t.lanes u.lanes lanes) (same_mark_true t.is_dynamic u.is_dynamic mark)
only DoubleWidth u t h =
    let (kind, width, lanes, mark) = all_four (same_kind t.kind u.kind) (t.width == 2 * u.width) (t.lanes == u.lanes)
    (same_mark t.is_dynamic u.is_dynamic) h.steps.relates in
    with_parts t _ _ _ _ (same_kind_true t.kind u.kind kind) (eqb-true t.width (2 * u.width) width) (eqb-true t.lanes u.lanes lanes)
    (same_mark_true t.is_dynamic u.is_dynamic mark)
only SplitLanes u t h =
    let (kind, width, lanes, mark) = all_four (same_kind t.kind u.kind) (2 * t.width == u.width) (t.lanes == 2 * u.lanes)
    (same_mark t.is_dynamic u.is_dynamic) h.steps.relates in
    with_parts t _ _ _ _ (same_kind_true t.kind u.kind kind) (half_of t.width u.width (eqb-true (2 * t.width) u.width width))
    (eqb-true t.lanes (2 * u.lanes) lanes) (same_mark_true t.is_dynamic u.is_dynamic mark)
only MergeLanes u t h =
    let (kind, width, lanes, mark) = all_four (same_kind t.kind u.kind) (t.width == 2 * u.width) (2 * t.lanes == u.lanes)
    (same_mark t.is_dynamic u.is_dynamic) h.steps.relates in
    with_parts t _ _ _ _ (same_kind_true t.kind u.kind kind) (eqb-true t.width (2 * u.width) width)
    (half_of t.lanes u.lanes (eqb-true (2 * t.lanes) u.lanes lanes)) (same_mark_true t.is_dynamic u.is_dynamic mark)
only DynamicToVector u t h =
    let (kind, width, lanes, marks) = all_four (same_kind t.kind u.kind) (t.width == u.width) (t.lanes == u.lanes)
    (u.is_dynamic && (not t.is_dynamic && nat_lt u.lanes 256)) h.steps.relates in
    let (of_u, of_t) = and_parts u.is_dynamic (not t.is_dynamic && nat_lt u.lanes 256) marks in
    with_parts t _ _ _ _ (same_kind_true t.kind u.kind kind) (eqb-true t.width u.width width) (eqb-true t.lanes u.lanes lanes)
    (not-true t.is_dynamic (and_parts (not t.is_dynamic) (nat_lt u.lanes 256) of_t).0)
only Narrower u t h = absurd (h.is_function.0 refl)
only Wider u t h = absurd (h.is_function.1 refl)

-- two answers are one
pub one : (f : Function) (u s t : TypeParts) → Answers f u s → Answers f u t → s ≡ t
one f u s t h k = only f u s h ∙ sym (only f u t k)

-- a lane count above one is even
even_count : (d : Bool) (n : ℕ) → Contains (lane_counts d) n → (not (nat_lt 1 n) || 2 * (n / 2) == n) ≡ true
even_count true n h = at_each_contained (λ m. not (nat_lt 1 m) || 2 * (m / 2) == m) (lane_counts true) n refl h
even_count false n h = at_each_contained (λ m. not (nat_lt 1 m) || 2 * (m / 2) == m) (lane_counts false) n refl h

-- there is one lane at least
some_lane : (e : Bool) (n : ℕ) → Contains (lane_counts e) n → nat_lt 0 n ≡ true
some_lane true n h = at_each_contained (λ m. nat_lt 0 m) (lane_counts true) n refl h
some_lane false n h = at_each_contained (λ m. nat_lt 0 m) (lane_counts false) n refl h

-- half of a lane count that is one itself
pub even : (d e : Bool) (n : ℕ) → Contains (lane_counts d) n → Contains (lane_counts e) (n / 2) → 2 * (n / 2) ≡ n
even d e n h k =
    let some : 0 < n / 2 = ltb-true 0 (n / 2) (some_lane e (n / 2) k) in
    ⊎_elim
    (λ not_more. let less = not-true (nat_lt 1 n) not_more in let m : n < 2 = omega (arith, ltb-false 1 n less) in absurd (omega arith))
    (λ is. eqb-true (2 * (n / 2)) n is)
    (or_cases (not (nat_lt 1 n)) (2 * (n / 2) == n) (even_count d n h))

-- nothing comes of a vector that isn't dynamic or has 256 lanes
pub not_fixed : (f : Function) (u t : TypeParts) → f ≡ DynamicToVector → false ≡ (u.is_dynamic && nat_lt u.lanes 256) → ¬ Answers f u t
not_fixed f u t is e h = fixed e (subst (λ g. Answers g u t) is h)
  where
    fixed : false ≡ (u.is_dynamic && nat_lt u.lanes 256) → Answers DynamicToVector u t → ⊥
    fixed e h =
        let (kind, width, lanes, marks) = all_four (same_kind t.kind u.kind) (t.width == u.width) (t.lanes == u.lanes)
        (u.is_dynamic && (not t.is_dynamic && nat_lt u.lanes 256)) h.steps.relates in
        let (of_u, few) = and_parts u.is_dynamic (not t.is_dynamic && nat_lt u.lanes 256) marks in
        false≢true (e ∙ and_from u.is_dynamic (nat_lt u.lanes 256) of_u (and_parts (not t.is_dynamic) (nat_lt u.lanes 256) few).1)
