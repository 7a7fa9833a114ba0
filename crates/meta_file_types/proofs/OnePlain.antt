-- The set that has one type alone.
use Rattle.std.proofs.Common.{◌≡◌, ◌∙◌, ℕ, ◌==◌, ◌&&◌, Bool, true, false, List, [], ◌∷◌, Contains, eqb, sum, sym, refl, ⊎_elim}
use Rattle.std.specs.List.{filter, list_any}
use Rattle.std.proofs.lemmas.Bool.{and_parts}
use Rattle.std.specs.Cmp.Lexicographic.{bytes_decides}
use lib.Pointwise.{pointwise}
use Rattle.meta_lists.proofs.Contained.{contains_first, contains_cases, contains_none}
use Rattle.meta_types.specs.TypeParts.{NumberKind, IntKind, FloatKind, TypeParts, IsType, widths, lane_counts}
use Rattle.meta_types.proofs.AllTypes.{at_all_types}
use Rattle.meta_typevar.specs.TypeSetParts.{IsOnlyMember, IsPart, IsTypeSet, widths_in, lanes_in}
use Rattle.meta_typevar.specs.Masks.{AreMasksOf}
use Rattle.meta_typevar.specs.Derivation.{int_width_of, float_width_of}
use Rattle.meta_typevar.specs.declared.masks.Masks.{Masks}
use Rattle.meta_file_types.specs.Plain.{set_of_one}

-- ---- it is a set of types

-- the numbers are some of these, in their order
abbrev are_part : List ℕ → List ℕ → Bool
are_part xs all = pointwise eqb xs (filter (λ n. list_any (λ m. m == n) xs) all)

is_part : (xs all : List ℕ) → are_part xs all ≡ true → IsPart xs all
is_part xs all e = record { test = λ n. list_any (λ m. m == n) xs; is = (bytes_decides _ _).0 e }

abbrev are_parts : TypeParts → Bool
are_parts t = are_part (set_of_one t).lanes (lane_counts false) && (are_part (set_of_one t).dynamic_lanes (lane_counts true)
    && (are_part (set_of_one t).ints (widths IntKind) && are_part (set_of_one t).floats (widths FloatKind)))

pub one_is_set : (t : TypeParts) → IsType t → IsTypeSet (set_of_one t)
one_is_set t h =
    let a = and_parts _ _ (at_all_types are_parts refl t h) in
    let b = and_parts _ _ a.1 in
    let c = and_parts _ _ b.1 in
    record {
      lanes = is_part (set_of_one t).lanes (lane_counts false) a.0;
      dynamic_lanes = is_part (set_of_one t).dynamic_lanes (lane_counts true) b.0;
      ints = is_part (set_of_one t).ints (widths IntKind) c.0;
      floats = is_part (set_of_one t).floats (widths FloatKind) c.1;
    }

-- what its masks are made of
pub are_masks : (t : TypeParts) (k : NumberKind) (w : ℕ) (m : Masks) → k ≡ t.kind → w ≡ t.width → m.lanes ≡ sum (set_of_one t).lanes
    → m.dynamic_lanes ≡ sum (set_of_one t).dynamic_lanes → m.ints ≡ sum (int_width_of k w) → m.floats ≡ sum (float_width_of k w)
    → AreMasksOf (set_of_one t) m
are_masks t k w m kind width lanes dynamic ints floats = record {
  lanes = lanes;
  dynamic_lanes = dynamic;
  ints = ints ∙ λ i. sum (int_width_of (kind i) (width i));
  floats = floats ∙ λ i. sum (float_width_of (kind i) (width i));
}

-- ---- it has the type alone

abbrev of_parts : NumberKind → ℕ → ℕ → Bool → TypeParts
of_parts k w l d = record { kind = k; width = w; lanes = l; is_dynamic = d }

has_width : (k : NumberKind) (w l : ℕ) (d : Bool) → Contains (widths_in (set_of_one (of_parts k w l d)) k) w
has_width IntKind w l d = contains_first w []
has_width FloatKind w l d = contains_first w []

has_lanes : (k : NumberKind) (w l : ℕ) (d : Bool) → Contains (lanes_in (set_of_one (of_parts k w l d)) d) l
has_lanes k w l false = contains_first l []
has_lanes k w l true = contains_first l []

-- a list of one number
only_one : (x y : ℕ) → Contains (x ∷ []) y → y ≡ x
only_one x y c = ⊎_elim (λ (e : x ≡ y). sym e) (λ (d : Contains [] y). absurd (contains_none y d)) (contains_cases x y [] c)

one_width : (k j : NumberKind) (w l v : ℕ) (d : Bool) → Contains (widths_in (set_of_one (of_parts k w l d)) j) v → (j ≡ k) × (v ≡ w)
one_width IntKind IntKind w l v d c = (refl, only_one w v c)
one_width IntKind FloatKind w l v d c = absurd (contains_none v c)
one_width FloatKind IntKind w l v d c = absurd (contains_none v c)
one_width FloatKind FloatKind w l v d c = (refl, only_one w v c)

one_count : (d e : Bool) (k : NumberKind) (w l m : ℕ) → Contains (lanes_in (set_of_one (of_parts k w l d)) e) m → (e ≡ d) × (m ≡ l)
one_count false false k w l m c = (refl, only_one l m c)
one_count false true k w l m c = absurd (contains_none m c)
one_count true false k w l m c = absurd (contains_none m c)
one_count true true k w l m c = (refl, only_one l m c)

pub one_only : (t : TypeParts) → IsType t → IsOnlyMember (set_of_one t) t
one_only t h = record {
  member = record {
    is_type = h;
    width = has_width t.kind t.width t.lanes t.is_dynamic;
    lanes = has_lanes t.kind t.width t.lanes t.is_dynamic;
  };
  only = λ u m.
      let a = one_width t.kind u.kind t.width t.lanes u.width t.is_dynamic m.width in
      let b = one_count t.is_dynamic u.is_dynamic t.kind t.width t.lanes u.lanes m.lanes in
      λ i. record { kind = a.0 i; width = a.1 i; lanes = b.1 i; is_dynamic = b.0 i };
}
