-- The type sets that valid declarations need, and their masks.
use Rattle.std.proofs.Common.{◌≡◌, ◌≤◌, ⊎_elim, ℕ, true, false, List, All, length, sum, refl, sym, ap, ◌∙◌, subst, arith}
use Rattle.std.specs.List.{filter}
use Rattle.std.proofs.lemmas.Bool.{cases_lt}
use Rattle.std.proofs.lemmas.Option.{same_Some}
use Rattle.meta_lists.proofs.Everywhere.{everywhere}
use Rattle.meta_lists.proofs.Places.{get_beside}
use Rattle.meta_types.specs.TypeParts.{IntKind, FloatKind, widths, lane_counts}
use Rattle.meta_typevar.specs.TypeSetParts.{TypeSetParts, IsPart, IsTypeSet}
use Rattle.meta_typevar.specs.Masks.{AreMasksOf}
use Rattle.meta_typevar.specs.MaskSets.{holds, sets_in, AreMasks}
use Rattle.meta_typevar.specs.Registry.{HoldTypeSets}
use Rattle.meta_typevar.specs.declared.masks.Masks.{Masks}
use Rattle.meta_typevar.proofs.Marks.{keeps, ints_keep, floats_keep, lanes_keep, dynamic_lanes_keep, holds_sum}
use Rattle.meta_inst.specs.InstructionSet.{InstructionSet}
use Rattle.meta_inst.specs.Faults.{IsValid, OfTypeSets, NeedsSet}
use Rattle.meta_build.specs.Needed.{AreNeededMasks}

-- a mask that is the sum of a set of allowed numbers holds that set of them
held_set : (all : List ℕ) → keeps all ≡ true → (xs : List ℕ) → IsPart xs all → (mask : ℕ) → mask ≡ sum xs → filter (holds mask) all ≡ xs
held_set all e xs part mask is = ap (λ (m : ℕ). filter (holds m) all) (is ∙ ap sum part.is) ∙ holds_sum all e part.test ∙ sym part.is

-- so it is the sum of what it holds of them
held_alone : (all : List ℕ) → keeps all ≡ true → (xs : List ℕ) → IsPart xs all → (mask : ℕ) → mask ≡ sum xs
    → mask ≡ sum (filter (holds mask) all)
held_alone all e xs part mask is = is ∙ ap sum (sym (held_set all e xs part mask is))

-- the masks of a set of types stand for it
pub set_back : (s : TypeSetParts) (m : Masks) → IsTypeSet s → AreMasksOf s m → sets_in m ≡ s
set_back s m is are =
    let lanes = held_set (lane_counts false) lanes_keep s.lanes is.lanes m.lanes are.lanes in
    let dynamic_lanes = held_set (lane_counts true) dynamic_lanes_keep s.dynamic_lanes is.dynamic_lanes m.dynamic_lanes are.dynamic_lanes in
    let ints = held_set (widths IntKind) ints_keep s.ints is.ints m.ints are.ints in
    let floats = held_set (widths FloatKind) floats_keep s.floats is.floats m.floats are.floats in
    λ i. record { lanes = lanes i; dynamic_lanes = dynamic_lanes i; ints = ints i; floats = floats i }

-- the masks of a set of types hold members of the full ranges alone
pub masks_of_set : (s : TypeSetParts) (m : Masks) → IsTypeSet s → AreMasksOf s m → AreMasks m
masks_of_set s m is are = record {
  lanes = held_alone (lane_counts false) lanes_keep s.lanes is.lanes m.lanes are.lanes;
  dynamic_lanes = held_alone (lane_counts true) dynamic_lanes_keep s.dynamic_lanes is.dynamic_lanes m.dynamic_lanes are.dynamic_lanes;
  ints = held_alone (widths IntKind) ints_keep s.ints is.ints m.ints are.ints;
  floats = held_alone (widths FloatKind) floats_keep s.floats is.floats m.floats are.floats;
}

module _ (d : InstructionSet) where
  -- a set that an instruction needs is that of a variable
  pub needed_set : HoldTypeSets d.vars → (s : TypeSetParts) → NeedsSet d s → IsTypeSet s
  needed_set typed s (k, needs) =
      ⊎_elim
      (λ h. subst IsTypeSet (sym h.1.set) (typed h.1.variable.root))
      (λ h. subst IsTypeSet (sym h.set) (typed h.variable.root))
      needs.needs

  pub needed_masks : HoldTypeSets d.vars → (masks : List Masks) → AreNeededMasks d masks → All AreMasks masks
  needed_masks typed masks needed = everywhere masks (λ k m at.
      let (s, s_at) = get_beside masks needed.sets k m needed.stand.count at in
      let (n, n_at, are) = needed.stand.each k s s_at in
      masks_of_set s m (needed_set typed s (needed.are_needed.are_needed.needed k s s_at))
      (subst (AreMasksOf s) (same_Some n m (sym n_at ∙ at)) are))

  -- valid declarations need few
  pub few_masks : IsValid d → (masks : List Masks) → AreNeededMasks d masks → length masks ≤ 4095
  few_masks valid masks needed =
      let count = needed.stand.count in
      ⊎_elim
      (λ many. absurd (valid OfTypeSets _ (length needed.sets, refl, (needed.sets, needed.are_needed.are_needed, refl, many))))
      (λ few. omega arith)
      (cases_lt 4095 (length needed.sets))
