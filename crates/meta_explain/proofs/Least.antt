-- The least set that has some types is the least, and types are one set exactly where they are all of it.
use Rattle.std.proofs.Common.{◌≡◌, ◌↔◌, ⊎_elim, ◌==◌, ◌&&◌, ◌||◌, Bool, true, false, ℕ, List, [], ◌∷◌, All, Contains, refl, sym, ◌∙◌, ap, subst}
use Rattle.std.specs.List.{filter, list_any, list_all}
use Rattle.std.proofs.lemmas.Bool.{false≢true, and_parts, and_from, eqb-true, eq-eqb}
use Rattle.std.proofs.lemmas.List.Elements.{All-contains}
use Rattle.meta_lists.proofs.Contained.{contains_first, contains_after, contains_cases, contains_none}
use Rattle.meta_types.specs.TypeParts.{NumberKind, IntKind, FloatKind, TypeParts, widths, lane_counts}
use Rattle.meta_types.specs.TypeNumber.{type_with, IsTypeNumber}
use Rattle.meta_types.specs.Function.{same_kind, same_mark}
use Rattle.meta_types.proofs.Among.{among, contains}
use Rattle.meta_types.proofs.AllTypes.{same_kind_true, same_mark_true}
use Rattle.meta_typevar.specs.Image.{is_among}
use Rattle.meta_typevar.specs.TypeSetParts.{TypeSetParts, IsMember, widths_in, lanes_in}
use Rattle.meta_typevar.proofs.Finite.{among_filter, among_kept}
use Rattle.meta_explain.specs.Sets.{has_lanes, has_width, least_set, numbers_in, is_one_set}
use Rattle.meta_explain.proofs.LeastSets.{among_to, among_from, numbers_to, numbers_from, all_to, all_from, or_true}

kind_self : (k : NumberKind) → same_kind k k ≡ true
kind_self IntKind = refl
kind_self FloatKind = refl

mark_self : (b : Bool) → same_mark b b ≡ true
mark_self true = refl
mark_self false = refl

-- ---- tests that some element passes

any_from : (p : ℕ → Bool) (xs : List ℕ) (n : ℕ) → Contains xs n → p n ≡ true → list_any p xs ≡ true
any_from p [] n c e = absurd (contains_none n c)
any_from p (x ∷ xs) n c e = ⊎_elim
    (λ is. ap (λ b. b || list_any p xs) (ap p is ∙ e))
    (λ later. ap (λ b. p x || b) (any_from p xs n later e) ∙ or_true (p x))
    (contains_cases x n xs c)

any_to : (p : ℕ → Bool) (xs : List ℕ) → list_any p xs ≡ true → (n : ℕ) × Contains xs n × (p n ≡ true)
any_to p [] e = absurd (false≢true e)
any_to p (x ∷ xs) e = elim (p x) as (λ b. p x ≡ b → (b || list_any p xs) ≡ true → (n : ℕ) × Contains (x ∷ xs) n × (p n ≡ true)) [
  | true ↦ λ t _. (x, contains_first x xs, t)
  | false ↦ λ _ h. let (n, c, t) = any_to p xs h in (n, contains_after x n xs c, t)
] refl e

-- what equals an element is contained
pub any_contains : (ns : List ℕ) (n : ℕ) → list_any (λ m. m == n) ns ≡ true → Contains ns n
any_contains ns n e = let (m, c, same) = any_to (λ m. m == n) ns e in subst (Contains ns) (eqb-true m n same) c

kept_to : (p : ℕ → Bool) (xs : List ℕ) (n : ℕ) → Contains xs n → p n ≡ true → Contains (filter p xs) n
kept_to p xs n c e = contains _ _ (among_kept p xs n (among xs n c) e)

kept_from : (p : ℕ → Bool) (xs : List ℕ) (n : ℕ) → Contains (filter p xs) n → p n ≡ true
kept_from p xs n c = (among_filter p xs n (among _ n c)).1

-- ---- the dimensions of the least set

least_widths : (ns : List ℕ) (k : NumberKind) → widths_in (least_set ns) k ≡ filter (has_width ns k) (widths k)
least_widths ns IntKind = refl
least_widths ns FloatKind = refl

least_lanes : (ns : List ℕ) (b : Bool) → lanes_in (least_set ns) b ≡ filter (has_lanes ns b) (lane_counts b)
least_lanes ns false = refl
least_lanes ns true = refl

pub least_has : (ns : List ℕ) (n : ℕ) → All IsTypeNumber ns → Contains ns n → IsMember (least_set ns) (type_with n)
least_has ns n typed c =
    let t = type_with n in
    let is = (All-contains IsTypeNumber ns n typed c).is_type in
    let width : has_width ns t.kind t.width ≡ true =
    any_from (λ m. same_kind (type_with m).kind t.kind && ((type_with m).width == t.width)) ns n c
    (and_from _ _ (kind_self t.kind) (eq-eqb t.width t.width refl)) in
    let lanes : has_lanes ns t.is_dynamic t.lanes ≡ true =
    any_from (λ m. same_mark (type_with m).is_dynamic t.is_dynamic && ((type_with m).lanes == t.lanes)) ns n c
    (and_from _ _ (mark_self t.is_dynamic) (eq-eqb t.lanes t.lanes refl)) in
    record {
      is_type = is;
      width = subst (λ (xs : List ℕ). Contains xs t.width) (sym (least_widths ns t.kind))
          (kept_to (has_width ns t.kind) (widths t.kind) t.width is.width width);
      lanes = subst (λ (xs : List ℕ). Contains xs t.lanes) (sym (least_lanes ns t.is_dynamic))
          (kept_to (has_lanes ns t.is_dynamic) (lane_counts t.is_dynamic) t.lanes is.lanes lanes);
    }

pub is_least : (ns : List ℕ) (s : TypeSetParts) (t : TypeParts) → ((n : ℕ) → Contains ns n → IsMember s (type_with n))
    → IsMember (least_set ns) t → IsMember s t
is_least ns s t all h =
    let width = kept_from (has_width ns t.kind) (widths t.kind) t.width
    (subst (λ (xs : List ℕ). Contains xs t.width) (least_widths ns t.kind) h.width) in
    let lanes = kept_from (has_lanes ns t.is_dynamic) (lane_counts t.is_dynamic) t.lanes
    (subst (λ (xs : List ℕ). Contains xs t.lanes) (least_lanes ns t.is_dynamic) h.lanes) in
    let (m, in_width, same_width) = any_to (λ m. same_kind (type_with m).kind t.kind && ((type_with m).width == t.width)) ns width in
    let (k, in_lanes, same_lanes) = any_to (λ m. same_mark (type_with m).is_dynamic t.is_dynamic && ((type_with m).lanes == t.lanes)) ns
    lanes in
    let (kind, w) = and_parts _ _ same_width in
    let (mark, l) = and_parts _ _ same_lanes in
    record {
      is_type = h.is_type;
      width = subst (λ d. Contains (widths_in s d) t.width) (same_kind_true (type_with m).kind t.kind kind)
          (subst (Contains (widths_in s (type_with m).kind)) (eqb-true (type_with m).width t.width w) (all m in_width).width);
      lanes = subst (λ b. Contains (lanes_in s b) t.lanes) (same_mark_true (type_with k).is_dynamic t.is_dynamic mark)
          (subst (Contains (lanes_in s (type_with k).is_dynamic)) (eqb-true (type_with k).lanes t.lanes l) (all k in_lanes).lanes);
    }

pub exactly_one : (ns : List ℕ) → All IsTypeNumber ns
    → ((is_one_set ns ≡ true) ↔ ((n : ℕ) → (Contains ns n ↔ (IsTypeNumber n × IsMember (least_set ns) (type_with n)))))
exactly_one ns typed = (
  λ e n. (
    λ c. (All-contains IsTypeNumber ns n typed c, least_has ns n typed c),
    λ (is, member). among_to ns n (all_to (is_among ns) (numbers_in (least_set ns)) e n (numbers_from (least_set ns) n is member)),
  ),
  λ same. all_from (is_among ns) (numbers_in (least_set ns)) (λ n c. among_from ns n ((same n).1 (numbers_to (least_set ns) n c))),
)
