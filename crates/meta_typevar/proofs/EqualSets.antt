-- Sets of equal masks are the same.
use Rattle.std.proofs.Common.{◌≡◌, ◌↔◌, ℕ, true, false, List, sum, ap, ◌∙◌, sym, subst, rules}
use Rattle.std.specs.Prelude.{IsTrue}
use Rattle.std.specs.List.{filter}
use Rattle.meta_types.specs.TypeParts.{IntKind, FloatKind, widths, lane_counts}
use Rattle.meta_typevar.specs.TypeSetParts.{TypeSetParts, IsPart, IsTypeSet}
use Rattle.meta_typevar.specs.Compared.{are_equal}
use Rattle.meta_typevar.specs.MaskSets.{holds}
use Rattle.meta_typevar.proofs.Marks.{keeps, ints_keep, floats_keep, lanes_keep, dynamic_lanes_keep, holds_sum}

-- a part is what its sum holds
held_again : (xs all : List ℕ) → keeps all ≡ true → IsPart xs all → filter (holds (sum xs)) all ≡ xs
held_again xs all e h = ap (λ (l : List ℕ). filter (holds (sum l)) all) h.is ∙ holds_sum all e h.test ∙ sym h.is

one_sum : (xs ys all : List ℕ) → keeps all ≡ true → IsPart xs all → IsPart ys all → sum xs ≡ sum ys → xs ≡ ys
one_sum xs ys all k h i e = sym (held_again xs all k h) ∙ ap (λ (m : ℕ). filter (holds m) all) e ∙ held_again ys all k i

equal_sums : (s t : TypeSetParts) → are_equal s t ≡ true → (sum s.lanes ≡ sum t.lanes)
    × (sum s.dynamic_lanes ≡ sum t.dynamic_lanes) × (sum s.ints ≡ sum t.ints) × (sum s.floats ≡ sum t.floats)
equal_sums s t e = (search rules, search rules, search rules, search rules)

pub equal_self : (s : TypeSetParts) → are_equal s s ≡ true
equal_self s = search rules

pub one_set : (s t : TypeSetParts) → IsTypeSet s → IsTypeSet t → (IsTrue (are_equal s t) ↔ s ≡ t)
one_set s t h i = (
  λ e.
      let r = equal_sums s t e in
      let l = one_sum s.lanes t.lanes (lane_counts false) lanes_keep h.lanes i.lanes r.0 in
      let d = one_sum s.dynamic_lanes t.dynamic_lanes (lane_counts true) dynamic_lanes_keep h.dynamic_lanes i.dynamic_lanes r.1 in
      let n = one_sum s.ints t.ints (widths IntKind) ints_keep h.ints i.ints r.2 in
      let f = one_sum s.floats t.floats (widths FloatKind) floats_keep h.floats i.floats r.3 in
      λ k. record { lanes = l k; dynamic_lanes = d k; ints = n k; floats = f k },
  λ e. subst (λ (x : TypeSetParts). IsTrue (are_equal s x)) e (equal_self s),
)
