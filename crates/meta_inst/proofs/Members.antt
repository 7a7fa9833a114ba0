-- The masks of a set contain the numbers of its members. Of sets and masks alone.
use Rattle.std.proofs.Common.{◌≡◌, ℕ, ◌↔◌, Bool, true, false, Contains, sym, subst}
use Rattle.meta_types.specs.TypeParts.{NumberKind, IntKind, FloatKind, TypeParts, widths, lane_counts, number_of}
use Rattle.meta_typevar.specs.TypeSetParts.{TypeSetParts, IsMember, IsTypeSet, widths_in, lanes_in}
use Rattle.meta_typevar.specs.Masks.{Holds, width_mask, lane_mask, ContainsType, ContainsNumber, AreMasksOf}
use Rattle.meta_typevar.specs.declared.masks.Masks.{Masks}
use Rattle.meta_inst.proofs.PowerMasks.{holds_what_it_contains, fixed_lanes_tell, dynamic_lanes_tell, ints_tell, floats_tell}

module _ (s : TypeSetParts) (m : Masks) (is : IsTypeSet s) (are : AreMasksOf s m) where
  -- the mask of a kind holds those of its widths that the set contains
  widths_held : (kind : NumberKind) (w : ℕ) → Contains (widths kind) w → (Holds (width_mask m kind) w ↔ Contains (widths_in s kind) w)
  widths_held IntKind w c =
      subst (λ x. Holds x w ↔ Contains s.ints w) (sym are.ints) (holds_what_it_contains (widths IntKind) s.ints w ints_tell is.ints c)
  widths_held FloatKind w c = subst (λ x. Holds x w ↔ Contains s.floats w) (sym are.floats)
      (holds_what_it_contains (widths FloatKind) s.floats w floats_tell is.floats c)

  -- the mask of a mark holds those of its lane counts that the set contains
  lanes_held : (mark : Bool) (l : ℕ) → Contains (lane_counts mark) l → (Holds (lane_mask m mark) l ↔ Contains (lanes_in s mark) l)
  lanes_held false l c = subst (λ x. Holds x l ↔ Contains s.lanes l) (sym are.lanes)
      (holds_what_it_contains (lane_counts false) s.lanes l fixed_lanes_tell is.lanes c)
  lanes_held true l c = subst (λ x. Holds x l ↔ Contains s.dynamic_lanes l) (sym are.dynamic_lanes)
      (holds_what_it_contains (lane_counts true) s.dynamic_lanes l dynamic_lanes_tell is.dynamic_lanes c)

  -- a type that the masks contain is a member
  pub member_from_masks : (t : TypeParts) → ContainsType m t → IsMember s t
  member_from_masks t c = record {
    is_type = c.is_type;
    width = (widths_held t.kind t.width c.is_type.width).0 c.width;
    lanes = (lanes_held t.is_dynamic t.lanes c.is_type.lanes).0 c.lanes;
  }

  -- the masks contain each member
  pub masks_from_member : (t : TypeParts) → IsMember s t → ContainsType m t
  masks_from_member t c = record {
    is_type = c.is_type;
    width = (widths_held t.kind t.width c.is_type.width).1 c.width;
    lanes = (lanes_held t.is_dynamic t.lanes c.is_type.lanes).1 c.lanes;
  }

-- The masks of a set contain exactly the numbers of its members.
pub numbers_of_members : (s : TypeSetParts) (m : Masks) (n : ℕ) → IsTypeSet s → AreMasksOf s m
    → (ContainsNumber m n ↔ ((t : TypeParts) × IsMember s t × (number_of t ≡ n)))
numbers_of_members s m n is are = (
  (λ c. (c.type_of, member_from_masks s m is are c.type_of c.contained, c.numbered)),
  (λ h. let (t, member, e) = h in record { type_of = t; contained = masks_from_member s m is are t member; numbered = e }),
)
