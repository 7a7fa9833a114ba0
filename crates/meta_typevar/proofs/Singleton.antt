-- The masks of a variable that stands for one type, by trying all types.
use Rattle.std.proofs.Common.{◌≡◌, ℕ, ◌&&◌, Bool, true, false, [], ◌∷◌, sum, refl, sym, ◌∙◌, subst}
use Rattle.std.proofs.lemmas.Bool.{and_parts}
use Rattle.meta_types.specs.TypeParts.{NumberKind, IntKind, FloatKind, TypeParts, IsType, widths, lane_counts}
use Rattle.meta_types.proofs.AllTypes.{at_all_types}
use Rattle.meta_typevar.specs.MaskSets.{sets_in, AreMasks}
use Rattle.meta_typevar.specs.Derivation.{singleton_sets, vector_lanes, int_width_of, float_width_of}
use Rattle.meta_typevar.specs.declared.masks.Masks.{Masks}
use Rattle.meta_typevar.proofs.ImageLemmas.{masks_numbers, stands}
use Rattle.meta_typevar.proofs.MaskLemmas.{masks_of}

-- the masks of the type stand for its set
abbrev stand_for : TypeParts → Bool
stand_for t = masks_numbers (lane_counts false) t.lanes (t.lanes ∷ []) &&
    (masks_numbers (lane_counts true) (sum (vector_lanes t.lanes)) (vector_lanes t.lanes) &&
    (masks_numbers (widths IntKind) (sum (int_width_of t.kind t.width)) (int_width_of t.kind t.width) && masks_numbers (widths FloatKind)
    (sum (float_width_of t.kind t.width)) (float_width_of t.kind t.width)))

-- what masks stand for the set of the type t
pub record StandsForType (t : TypeParts) (m : Masks) : Type 0 where
  pub sets : sets_in m ≡ singleton_sets t
  pub masks : AreMasks m

abbrev type_masks : TypeParts → Masks
type_masks t = masks_of t.lanes (sum (vector_lanes t.lanes)) (sum (int_width_of t.kind t.width)) (sum (float_width_of t.kind t.width))

stands_for_type : (t : TypeParts) → IsType t → StandsForType t (type_masks t)
stands_for_type t h =
    let a = and_parts _ _ (at_all_types stand_for refl t h) in
    let b = and_parts _ _ a.1 in
    let c = and_parts _ _ b.1 in
    let l = stands (lane_counts false) t.lanes (t.lanes ∷ []) a.0 in
    let d = stands (lane_counts true) (sum (vector_lanes t.lanes)) (vector_lanes t.lanes) b.0 in
    let i = stands (widths IntKind) (sum (int_width_of t.kind t.width)) (int_width_of t.kind t.width) c.0 in
    let f = stands (widths FloatKind) (sum (float_width_of t.kind t.width)) (float_width_of t.kind t.width) c.1 in
    record {
      sets = λ j. record { lanes = l.set j; dynamic_lanes = d.set j; ints = i.set j; floats = f.set j };
      masks = record { lanes = l.mask; dynamic_lanes = d.mask; ints = i.mask; floats = f.mask };
    }

-- the masks that are made of the parts of a type
pub singleton_made : (t : TypeParts) (kind : NumberKind) (width lanes dynamic ints floats : ℕ) → IsType t → kind ≡ t.kind → width ≡ t.width
    → lanes ≡ t.lanes → dynamic ≡ sum (vector_lanes lanes) → ints ≡ sum (int_width_of kind width)
    → floats ≡ sum (float_width_of kind width) → StandsForType t (masks_of lanes dynamic ints floats)
singleton_made t kind width lanes dynamic ints floats h k w l d a b =
    let is : masks_of lanes dynamic ints floats ≡ type_masks t =
    λ i. masks_of (l i) ((d ∙ λ j. sum (vector_lanes (l j))) i) ((a ∙ λ j. sum (int_width_of (k j) (w j))) i)
    ((b ∙ λ j. sum (float_width_of (k j) (w j))) i) in
    subst (StandsForType t) (sym is) (stands_for_type t h)
