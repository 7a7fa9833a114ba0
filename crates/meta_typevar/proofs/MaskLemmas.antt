-- The sets that masks stand for.
use Rattle.std.proofs.Common.{◌≡◌, ℕ, ◌+◌, ◌*◌, ◌==◌, ◌&&◌, ◌↔◌, not, Bool, true, false, List, length, sum, ap, ◌∙◌, sym, refl, ◌≤◌, arith}
use Rattle.std.specs.List.{filter}
use Rattle.std.proofs.lemmas.Bool.{and_parts, and_from, eqb-true, eq-eqb}
use Rattle.std.proofs.lemmas.List.Filters.{length-filter_both}
use lib.Count.{ones}
use Rattle.meta_types.specs.TypeParts.{IntKind, FloatKind, widths, lane_counts}
use Rattle.meta_typevar.specs.TypeSetParts.{TypeSetParts, IsPart, IsTypeSet}
use Rattle.meta_typevar.specs.Masks.{AreMasksOf}
use Rattle.meta_typevar.specs.MaskSets.{holds, sets_in, AreMasks}
use Rattle.meta_typevar.specs.declared.interval.Interval.{Interval}
use Rattle.meta_typevar.specs.declared.interval.Interval.TheVariants.{None as Nothing, All as Everything, Range as Between}
use Rattle.meta_typevar.specs.Intervals.{Intervals, has, lanes_between, sets_between}
use Rattle.meta_typevar.specs.declared.masks.Masks.{Masks}
use Rattle.meta_typevar.proofs.Marks.{keeps, ints_keep, floats_keep, lanes_keep, dynamic_lanes_keep, holds_sum, ones_sum}

part : (mask : ℕ) (all : List ℕ) → IsPart (filter (holds mask) all) all
part mask all = record { test = holds mask; is = refl }

pub is_type_set : (m : Masks) → IsTypeSet (sets_in m)
is_type_set m = record {
  lanes = part m.lanes (lane_counts false);
  dynamic_lanes = part m.dynamic_lanes (lane_counts true);
  ints = part m.ints (widths IntKind);
  floats = part m.floats (widths FloatKind);
}

-- how many types are members
abbrev pub members : TypeSetParts → ℕ
members s = (length s.lanes + length s.dynamic_lanes) * (length s.ints + length s.floats)

-- a mask that is the sum of what it holds has as many bits as it holds numbers
bits : (all : List ℕ) → keeps all ≡ true → (mask : ℕ) → mask ≡ sum (filter (holds mask) all) → ones mask ≡ length (filter (holds mask) all)
bits all e mask h = ap ones h ∙ ones_sum all e (holds mask)

few : (all : List ℕ) (p : ℕ → Bool) → length (filter p all) ≤ length all
few all p =
    let e = length-filter_both p (λ x. not (p x)) (λ x. refl) all in
    omega (arith, e)

-- so few bits are set that the counts are far below the end of their range
pub few_bits : (m : Masks) → AreMasks m → (ones m.lanes ≤ 9) × (ones m.dynamic_lanes ≤ 8) × (ones m.ints ≤ 5) × (ones m.floats ≤ 4)
few_bits m h = (
  few_held (lane_counts false) lanes_keep m.lanes h.lanes,
  few_held (lane_counts true) dynamic_lanes_keep m.dynamic_lanes h.dynamic_lanes,
  few_held (widths IntKind) ints_keep m.ints h.ints,
  few_held (widths FloatKind) floats_keep m.floats h.floats,
)
  where
    few_held : (all : List ℕ) → keeps all ≡ true → (mask : ℕ) → mask ≡ sum (filter (holds mask) all) → ones mask ≤ length all
    few_held all e mask h =
        let n = bits all e mask h in
        let l = few all (holds mask) in
        omega (arith, n, l)

pub mask_members : (m : Masks) → AreMasksOf (sets_in m) m → (ones m.lanes + ones m.dynamic_lanes) * (ones m.ints + ones m.floats)
    ≡ members (sets_in m)
mask_members m h =
    let a = bits (lane_counts false) lanes_keep m.lanes h.lanes in
    let b = bits (lane_counts true) dynamic_lanes_keep m.dynamic_lanes h.dynamic_lanes in
    let c = bits (widths IntKind) ints_keep m.ints h.ints in
    let d = bits (widths FloatKind) floats_keep m.floats h.floats in
    λ i. (a i + b i) * (c i + d i)

-- a mask that was made as the sum of what passes a test
made : (all : List ℕ) → keeps all ≡ true → (p : ℕ → Bool) (mask : ℕ) → mask ≡ sum (filter p all) → filter (holds mask) all ≡ filter p all
made all e p mask h = ap (λ (m : ℕ). filter (holds m) all) h ∙ holds_sum all e p

-- four masks
abbrev pub masks_of : ℕ → ℕ → ℕ → ℕ → Masks
masks_of lanes dynamic ints floats = record { lanes = lanes; dynamic_lanes = dynamic; ints = ints; floats = floats }

-- a mask of vectors alone doesn't hold one lane
vectors_made : (p : ℕ → Bool) (mask : ℕ) → mask ≡ sum (filter p (lane_counts true))
    → filter (holds mask) (lane_counts false) ≡ filter p (lane_counts true)
vectors_made p mask h = made (lane_counts false) lanes_keep (λ n. not (n == 1) && p n) mask h

-- the sum of the lanes that an interval has holds just them, of all lane counts
lanes_made : (b : Bool) (i : Interval) (mask : ℕ) → mask ≡ sum (lanes_between b i)
    → filter (holds mask) (lane_counts false) ≡ lanes_between b i
lanes_made b Nothing mask h = ap (λ (m : ℕ). filter (holds m) (lane_counts false)) h
lanes_made true Everything mask h = ap (λ (m : ℕ). filter (holds m) (lane_counts false)) h
lanes_made false Everything mask h = ap (λ (m : ℕ). filter (holds m) (lane_counts false)) h
lanes_made true (Between r) mask h = made (lane_counts false) lanes_keep (has (Between r)) mask h
lanes_made false (Between r) mask h = vectors_made (has (Between r)) mask h

-- what is built from the masks of the parts, and its masks
pub built_sets : (i : Intervals) (lanes dynamic ints floats : ℕ) → lanes ≡ sum (lanes_between i.includes_scalars i.simd_lanes)
    → dynamic ≡ sum (filter (has i.dynamic_simd_lanes) (lane_counts true)) → ints ≡ sum (filter (has i.ints) (widths IntKind))
    → floats ≡ sum (filter (has i.floats) (widths FloatKind)) → sets_in (masks_of lanes dynamic ints floats) ≡ sets_between i
built_sets i lanes dynamic ints floats l d a b =
    let n = lanes_made i.includes_scalars i.simd_lanes lanes l in
    let m = made (lane_counts true) dynamic_lanes_keep (has i.dynamic_simd_lanes) dynamic d in
    let o = made (widths IntKind) ints_keep (has i.ints) ints a in
    let p = made (widths FloatKind) floats_keep (has i.floats) floats b in
    λ k. record { lanes = n k; dynamic_lanes = m k; ints = o k; floats = p k }

pub built_masks : (i : Intervals) (lanes dynamic ints floats : ℕ) → lanes ≡ sum (lanes_between i.includes_scalars i.simd_lanes)
    → dynamic ≡ sum (filter (has i.dynamic_simd_lanes) (lane_counts true)) → ints ≡ sum (filter (has i.ints) (widths IntKind))
    → floats ≡ sum (filter (has i.floats) (widths FloatKind)) → AreMasks (masks_of lanes dynamic ints floats)
built_masks i lanes dynamic ints floats l d a b = record {
  lanes = l ∙ ap sum (sym (lanes_made i.includes_scalars i.simd_lanes lanes l));
  dynamic_lanes = d ∙ ap sum (sym (made (lane_counts true) dynamic_lanes_keep (has i.dynamic_simd_lanes) dynamic d));
  ints = a ∙ ap sum (sym (made (widths IntKind) ints_keep (has i.ints) ints a));
  floats = b ∙ ap sum (sym (made (widths FloatKind) floats_keep (has i.floats) floats b));
}

-- sets of types are the same exactly where their sums are
same_sums : (all : List ℕ) → keeps all ≡ true → (xs ys : List ℕ) → IsPart xs all → IsPart ys all → sum xs ≡ sum ys → xs ≡ ys
same_sums all e xs ys p q h =
    let here : filter (holds (sum xs)) all ≡ xs = ap (λ (zs : List ℕ). filter (holds (sum zs)) all) p.is ∙ holds_sum all e p.test
    ∙ sym p.is in
    let there : filter (holds (sum ys)) all ≡ ys = ap (λ (zs : List ℕ). filter (holds (sum zs)) all) q.is ∙ holds_sum all e q.test
    ∙ sym q.is in
    sym here ∙ ap (λ (n : ℕ). filter (holds n) all) h ∙ there

pub same_sets : (s t : TypeSetParts) → IsTypeSet s → IsTypeSet t → sum s.lanes ≡ sum t.lanes → sum s.dynamic_lanes ≡ sum t.dynamic_lanes
    → sum s.ints ≡ sum t.ints → sum s.floats ≡ sum t.floats → s ≡ t
same_sets s t p q a b c d =
    let l = same_sums (lane_counts false) lanes_keep s.lanes t.lanes p.lanes q.lanes a in
    let m = same_sums (lane_counts true) dynamic_lanes_keep s.dynamic_lanes t.dynamic_lanes p.dynamic_lanes q.dynamic_lanes b in
    let n = same_sums (widths IntKind) ints_keep s.ints t.ints p.ints q.ints c in
    let o = same_sums (widths FloatKind) floats_keep s.floats t.floats p.floats q.floats d in
    λ i. record { lanes = l i; dynamic_lanes = m i; ints = n i; floats = o i }

-- and so are their masks
pub masks_told : (s t : TypeSetParts) (m n : Masks) → AreMasksOf s m → AreMasksOf t n → IsTypeSet s → IsTypeSet t
    → (((m.lanes == n.lanes) && ((m.dynamic_lanes == n.dynamic_lanes) && ((m.ints == n.ints) && (m.floats == n.floats)))) ≡ true) ↔ (s ≡ t)
masks_told s t m n a b p q = (
  λ e.
      let x = and_parts _ _ e in
      let y = and_parts _ _ x.1 in
      let z = and_parts _ _ y.1 in
      same_sets s t p q (sym a.lanes ∙ eqb-true _ _ x.0 ∙ b.lanes) (sym a.dynamic_lanes ∙ eqb-true _ _ y.0 ∙ b.dynamic_lanes) (sym a.ints
      ∙ eqb-true _ _ z.0 ∙ b.ints) (sym a.floats ∙ eqb-true _ _ z.1 ∙ b.floats),
  λ e. and_from _ _ (eq-eqb _ _ (a.lanes ∙ ap (λ (x : TypeSetParts). sum x.lanes) e ∙ sym b.lanes))
      (and_from _ _ (eq-eqb _ _ (a.dynamic_lanes ∙ ap (λ (x : TypeSetParts). sum x.dynamic_lanes) e ∙ sym b.dynamic_lanes))
      (and_from _ _ (eq-eqb _ _ (a.ints ∙ ap (λ (x : TypeSetParts). sum x.ints) e ∙ sym b.ints))
      (eq-eqb _ _ (a.floats ∙ ap (λ (x : TypeSetParts). sum x.floats) e ∙ sym b.floats)))),
)

-- a set of types whose masks these are is what they hold
pub sets_held : (s : TypeSetParts) (m : Masks) → IsTypeSet s → AreMasksOf s m → AreMasks m
sets_held s m p a = record {
  lanes = held (lane_counts false) lanes_keep s.lanes m.lanes p.lanes a.lanes;
  dynamic_lanes = held (lane_counts true) dynamic_lanes_keep s.dynamic_lanes m.dynamic_lanes p.dynamic_lanes a.dynamic_lanes;
  ints = held (widths IntKind) ints_keep s.ints m.ints p.ints a.ints;
  floats = held (widths FloatKind) floats_keep s.floats m.floats p.floats a.floats;
}
  where
    held : (all : List ℕ) → keeps all ≡ true → (xs : List ℕ) (mask : ℕ) → IsPart xs all → mask ≡ sum xs
        → mask ≡ sum (filter (holds mask) all)
    held all e xs mask q h = h ∙ ap sum (q.is ∙ sym (made all e q.test mask (h ∙ ap sum q.is)))
