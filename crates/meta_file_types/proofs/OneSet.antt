-- Sets that have the same masks.
use Rattle.std.proofs.Common.{◌≡◌, ◌∙◌, ◌≤◌, ◌<◌, ◌+◌, ◌^◌, ℕ, Bool, true, false, cond, List, [], ◌∷◌, sum, ap, sym, subst, refl, arith}
use Rattle.std.specs.Prelude.{Option, Some, None, ◌==◌}
use Rattle.std.specs.List.{filter, find}
use Rattle.std.proofs.lemmas.List.Sums.{sum_by-cons}
use Rattle.meta_types.specs.TypeParts.{IntKind, FloatKind, widths, lane_counts}
use Rattle.meta_typevar.specs.TypeSetParts.{TypeSetParts, IsPart, IsTypeSet}
use Rattle.meta_typevar.specs.Masks.{AreMasksOf}
use Rattle.meta_typevar.specs.MaskSets.{holds}
use Rattle.meta_typevar.specs.declared.masks.Masks.{Masks}
use Rattle.meta_typevar.proofs.Marks.{keeps, ints_keep, floats_keep, lanes_keep, dynamic_lanes_keep, holds_sum}
use Rattle.meta_file_syntax.specs.declared.types.Dimension.{Dimension}
use Rattle.meta_file_syntax.specs.declared.types.Dimension.TheVariants as dimensions
use Rattle.meta_file_syntax.specs.declared.types.Part.{Part}
use Rattle.meta_file_types.specs.Sets.{numbers_of, left_out, is_of, is_member, members_by, numbers_by, set_of_parts}

-- a part is what its sum holds
held_again : (xs all : List ℕ) → keeps all ≡ true → IsPart xs all → filter (holds (sum xs)) all ≡ xs
held_again xs all e h = ap (λ (l : List ℕ). filter (holds (sum l)) all) h.is ∙ (holds_sum all e h.test ∙ sym h.is)

one_sum : (xs ys all : List ℕ) → keeps all ≡ true → IsPart xs all → IsPart ys all → sum xs ≡ sum ys → xs ≡ ys
one_sum xs ys all k h i e = sym (held_again xs all k h) ∙ (ap (λ (m : ℕ). filter (holds m) all) e ∙ held_again ys all k i)

pub one_set : (s t : TypeSetParts) (m : Masks) → IsTypeSet s → IsTypeSet t → AreMasksOf s m → AreMasksOf t m → s ≡ t
one_set s t m h i a b =
    let l = one_sum s.lanes t.lanes (lane_counts false) lanes_keep h.lanes i.lanes (sym a.lanes ∙ b.lanes) in
    let d = one_sum s.dynamic_lanes t.dynamic_lanes (lane_counts true) dynamic_lanes_keep h.dynamic_lanes i.dynamic_lanes
    (sym a.dynamic_lanes ∙ b.dynamic_lanes) in
    let n = one_sum s.ints t.ints (widths IntKind) ints_keep h.ints i.ints (sym a.ints ∙ b.ints) in
    let f = one_sum s.floats t.floats (widths FloatKind) floats_keep h.floats i.floats (sym a.floats ∙ b.floats) in
    λ k. record { lanes = l k; dynamic_lanes = d k; ints = n k; floats = f k }

-- what is left out is a part, and so is what members have
left_is_part : (d : Dimension) → IsPart (left_out d) (numbers_of d)
left_is_part dimensions.Lanes = record { test = λ n. n == 1; is = refl }
left_is_part dimensions.Dynamic = record { test = λ n. false; is = refl }
left_is_part dimensions.Ints = record { test = λ n. false; is = refl }
left_is_part dimensions.Floats = record { test = λ n. false; is = refl }

part_by : (d : Dimension) (o : Option Part) → IsPart (members_by d o) (numbers_of d)
part_by d None = left_is_part d
part_by d (Some p) = record { test = is_member p.members; is = refl }

-- parts give a set of types
pub parts_give : (parts : List Part) → IsTypeSet (set_of_parts parts)
parts_give parts = record {
  lanes = part_by dimensions.Lanes (find (is_of dimensions.Lanes) parts);
  dynamic_lanes = part_by dimensions.Dynamic (find (is_of dimensions.Dynamic) parts);
  ints = part_by dimensions.Ints (find (is_of dimensions.Ints) parts);
  floats = part_by dimensions.Floats (find (is_of dimensions.Floats) parts);
}

-- ---- masks of parts

kept_few : (p : ℕ → Bool) (xs : List ℕ) → sum (filter p xs) ≤ sum xs
kept_few p [] = omega arith
kept_few p (x ∷ xs) = by (p x) (kept_few p xs)
  where
    by : (b : Bool) → sum (filter p xs) ≤ sum xs → sum (cond b (x ∷ filter p xs) (filter p xs)) ≤ sum (x ∷ xs)
    by true h =
        let all : sum (x ∷ xs) ≡ x + sum xs = sum_by-cons (λ y. y) x xs in
        let kept : sum (x ∷ filter p xs) ≡ x + sum (filter p xs) = sum_by-cons (λ y. y) x (filter p xs) in
        let few : sum (x ∷ filter p xs) ≤ sum (x ∷ xs) = omega (arith, h, all, kept) in few
    by false h =
        let all : sum (x ∷ xs) ≡ x + sum xs = sum_by-cons (λ y. y) x xs in
        let few : sum (filter p xs) ≤ sum (x ∷ xs) = omega (arith, h, all) in few

part_few : (xs all : List ℕ) → IsPart xs all → sum xs ≤ sum all
part_few xs all h = subst (λ (l : List ℕ). sum l ≤ sum all) (sym h.is) (kept_few h.test all)

-- those of widths are below 256
pub ints_few : (parts : List Part) (m : ℕ) → m ≡ sum (numbers_by parts dimensions.Ints) → m < 2 ^ 8
ints_few parts m e =
    let few : sum (numbers_by parts dimensions.Ints) ≤ sum (widths IntKind) = part_few _ _ (parts_give parts).ints in
    let all : sum (widths IntKind) ≡ 248 = refl in
    omega (arith, e, few, all)

pub floats_few : (parts : List Part) (m : ℕ) → m ≡ sum (numbers_by parts dimensions.Floats) → m < 2 ^ 8
floats_few parts m e =
    let few : sum (numbers_by parts dimensions.Floats) ≤ sum (widths FloatKind) = part_few _ _ (parts_give parts).floats in
    let all : sum (widths FloatKind) ≡ 240 = refl in
    omega (arith, e, few, all)

-- there is a set with these masks
pub is_set : (parts : List Part) (m : Masks) → ((s : TypeSetParts) → IsTypeSet s → ¬ AreMasksOf s m)
    → m.lanes ≡ sum (numbers_by parts dimensions.Lanes) → m.dynamic_lanes ≡ sum (numbers_by parts dimensions.Dynamic)
    → m.ints ≡ sum (numbers_by parts dimensions.Ints) → m.floats ≡ sum (numbers_by parts dimensions.Floats) → ⊥
is_set parts m none lanes dynamic ints floats =
    none (set_of_parts parts) (parts_give parts) (record { lanes = lanes; dynamic_lanes = dynamic; ints = ints; floats = floats })
