-- The text of a set, by its masks.
use Rattle.std.proofs.Common.{◌≡◌, ◌==◌, ◌||◌, ◌&&◌, not, eqb, Bool, true, false, ℕ, List, [], ◌∷◌, ◌++◌, length, map, sum, refl, sym, ◌∙◌, ap}
use Rattle.std.proofs.Common.{codes, append_assoc}
use Rattle.std.specs.Fmt.{digits, decimal}
use Rattle.std.specs.List.{filter, join_by, flat_map}
use Rattle.std.specs.Cmp.Lexicographic.{bytes_decides}
use Rattle.std.proofs.lemmas.Bool.{eqb-true, and_parts}
use Rattle.std.proofs.lemmas.List.{length-map, append-nil, flat_map_more}
use lib.Pointwise.{pointwise}
use Rattle.meta_types.specs.TypeParts.{IntKind, FloatKind, widths, lane_counts}
use Rattle.meta_types.specs.Function.{same_mark}
use Rattle.meta_types.proofs.AllTypes.{same_mark_true}
use Rattle.meta_typevar.specs.Image.{has_some, is_one_lane}
use Rattle.meta_typevar.specs.TypeSetParts.{TypeSetParts}
use Rattle.meta_typevar.specs.MaskSets.{holds, sets_in, AreMasks}
use Rattle.meta_typevar.specs.declared.masks.Masks.{Masks}
use Rattle.meta_typevar.proofs.Marks.{at_marks, marked, passes_at_marks, filter_marked}
use Rattle.meta_explain.specs.Texts.{members_text, part_texts, shows_lanes, item_text}
use Rattle.meta_explain.specs.MaskTexts.{mask_text, separator, shown_text}

-- ---- the members of one dimension, by trying all masks

-- of these numbers the mask `whole` has all: the text of a mask is that of its numbers, it is 0 where there are none, and 1 where there is
-- one lane
abbrev tells : ℕ → List ℕ → List ℕ → Bool
tells whole all xs = pointwise eqb (mask_text (sum xs) whole) (members_text all xs)
    && (same_mark (not (sum xs == 0)) (has_some xs) && same_mark (sum xs == 1) (is_one_lane xs))

abbrev all_told : ℕ → List ℕ → Bool
all_told whole all = at_marks (length all) (λ ms. tells whole all (marked ms all))

lanes_told : all_told 511 (lane_counts false) ≡ true
unfolding digits
lanes_told = refl

dynamic_told : all_told 510 (lane_counts true) ≡ true
unfolding digits
dynamic_told = refl

ints_told : all_told 248 (widths IntKind) ≡ true
unfolding digits
ints_told = refl

floats_told : all_told 240 (widths FloatKind) ≡ true
unfolding digits
floats_told = refl

module _ (whole : ℕ) (all : List ℕ) (e : all_told whole all ≡ true) (mask : ℕ) (h : mask ≡ sum (filter (holds mask) all)) where
  told : tells whole all (filter (holds mask) all) ≡ true
  told =
      let at : at_marks (length (map (holds mask) all)) (λ ms. tells whole all (marked ms all)) ≡ true =
      ap (λ k. at_marks k (λ ms. tells whole all (marked ms all))) (length-map all (holds mask)) ∙ e in
      ap (tells whole all) (filter_marked (holds mask) all)
      ∙ passes_at_marks (λ ms. tells whole all (marked ms all)) (map (holds mask) all) at

  pub members_told : mask_text mask whole ≡ members_text all (filter (holds mask) all)
  members_told = ap (λ m. mask_text m whole) h ∙ (bytes_decides _ _).0 (and_parts _ _ told).0

  pub some_told : not (mask == 0) ≡ has_some (filter (holds mask) all)
  some_told = ap (λ (m : ℕ). not (m == 0)) h ∙ same_mark_true _ _ (and_parts _ _ (and_parts _ _ told).1).0

  pub one_told : (mask == 1) ≡ is_one_lane (filter (holds mask) all)
  one_told = ap (λ (m : ℕ). m == 1) h ∙ same_mark_true _ _ (and_parts _ _ (and_parts _ _ told).1).1

-- ---- the parts, each after a comma where one before it is shown

abbrev has_parts : List (List ℕ) → Bool
has_parts [] = false
has_parts (p ∷ ps) = true

abbrev joined : List (List ℕ) → List ℕ
joined ps = join_by (λ p. p) (codes ", ") ps

part_more : (ps : List (List ℕ)) (shown : Bool) (name all xs : List ℕ)
    → joined (ps ++ part_texts shown name all xs) ≡ joined ps ++ shown_text shown (has_parts ps) name (members_text all xs)
part_more ps false name all xs = ap joined (append-nil ps) ∙ sym (append-nil (joined ps))
part_more [] true name all xs = append-nil _
part_more (p ∷ ps) true name all xs = sym (flat_map_more (λ (q : List ℕ). codes ", " ++ q) p ps (name ++ members_text all xs))

has_more : (ps : List (List ℕ)) (shown : Bool) (name all xs : List ℕ) → has_parts (ps ++ part_texts shown name all xs)
    ≡ (has_parts ps || shown)
has_more [] false name all xs = refl
has_more [] true name all xs = refl
has_more (p ∷ ps) shown name all xs = refl

-- a part of the numbers that a mask holds
module _ (whole : ℕ) (all : List ℕ) (e : all_told whole all ≡ true) (mask : ℕ) (h : mask ≡ sum (filter (holds mask) all)) where
  pub mask_part : (shown follows : Bool) (name : List ℕ) → shown_text shown follows name (mask_text mask whole)
      ≡ shown_text shown follows name (members_text all (filter (holds mask) all))
  mask_part shown follows name = ap (shown_text shown follows name) (members_told whole all e mask h)

module _ (m : Masks) (h : AreMasks m) where
  -- the four parts as they are written
  abbrev pub written : Bool → Bool → Bool → Bool → List ℕ
  written lanes dynamic ints floats =
      ((shown_text lanes false (codes "lanes") (mask_text m.lanes 511)
      ++ shown_text dynamic lanes (codes "dynamic") (mask_text m.dynamic_lanes 510))
      ++ shown_text ints (lanes || dynamic) (codes "ints") (mask_text m.ints 248))
      ++ shown_text floats ((lanes || dynamic) || ints) (codes "floats") (mask_text m.floats 240)

  four_parts : written (shows_lanes (sets_in m)) (has_some (sets_in m).dynamic_lanes) (has_some (sets_in m).ints)
      (has_some (sets_in m).floats) ≡ item_text (sets_in m)
  four_parts =
      let s = sets_in m in
      let l = shows_lanes s in
      let d = has_some s.dynamic_lanes in
      let n = has_some s.ints in
      let f = has_some s.floats in
      let a = part_texts l (codes "lanes") (lane_counts false) s.lanes in
      let b = a ++ part_texts d (codes "dynamic") (lane_counts true) s.dynamic_lanes in
      let c = b ++ part_texts n (codes "ints") (widths IntKind) s.ints in
      let has_a : has_parts a ≡ l = has_more [] l (codes "lanes") (lane_counts false) s.lanes in
      let has_b : has_parts b ≡ (l || d) = has_more a d (codes "dynamic") (lane_counts true) s.dynamic_lanes
      ∙ ap (λ (x : Bool). x || d) has_a in
      let has_c : has_parts c ≡ ((l || d) || n) = has_more b n (codes "ints") (widths IntKind) s.ints ∙ ap (λ (x : Bool). x || n) has_b in
      let to_a : joined a ≡ shown_text l false (codes "lanes") (mask_text m.lanes 511) =
      part_more [] l (codes "lanes") (lane_counts false) s.lanes
      ∙ sym (mask_part 511 (lane_counts false) lanes_told m.lanes h.lanes l false (codes "lanes")) in
      let dynamic = part_more a d (codes "dynamic") (lane_counts true) s.dynamic_lanes
      ∙ (λ i. to_a i ++ shown_text d (has_a i) (codes "dynamic") (members_text (lane_counts true) s.dynamic_lanes))
      ∙ ap (λ (t : List ℕ). shown_text l false (codes "lanes") (mask_text m.lanes 511) ++ t)
      (sym (mask_part 510 (lane_counts true) dynamic_told m.dynamic_lanes h.dynamic_lanes d l (codes "dynamic"))) in
      let front = shown_text l false (codes "lanes") (mask_text m.lanes 511)
      ++ shown_text d l (codes "dynamic") (mask_text m.dynamic_lanes 510) in
      let ints = part_more b n (codes "ints") (widths IntKind) s.ints
      ∙ (λ i. dynamic i ++ shown_text n (has_b i) (codes "ints") (members_text (widths IntKind) s.ints))
      ∙ ap (λ (t : List ℕ). front ++ t) (sym (mask_part 248 (widths IntKind) ints_told m.ints h.ints n (l || d) (codes "ints"))) in
      let whole = part_more c f (codes "floats") (widths FloatKind) s.floats
      ∙ (λ i. ints i ++ shown_text f (has_c i) (codes "floats") (members_text (widths FloatKind) s.floats))
      ∙ ap (λ (t : List ℕ). (front ++ shown_text n (l || d) (codes "ints") (mask_text m.ints 248)) ++ t)
      (sym (mask_part 240 (widths FloatKind) floats_told m.floats h.floats f ((l || d) || n) (codes "floats"))) in
      sym whole

  from_left : (a b c d : List ℕ) → a ++ (b ++ (c ++ d)) ≡ ((a ++ b) ++ c) ++ d
  from_left a b c d = simp append_assoc refl

  -- what is written by the masks is the item
  pub item_written : (lanes dynamic counts ints floats : Bool) → dynamic ≡ not (m.dynamic_lanes == 0)
      → lanes ≡ (dynamic || not (m.lanes == 1)) → counts ≡ (lanes || dynamic) → ints ≡ not (m.ints == 0) → floats ≡ not (m.floats == 0)
      → shown_text lanes false (codes "lanes") (mask_text m.lanes 511)
      ++ (shown_text dynamic lanes (codes "dynamic") (mask_text m.dynamic_lanes 510)
      ++ (shown_text ints counts (codes "ints") (mask_text m.ints 248)
      ++ shown_text floats (counts || ints) (codes "floats") (mask_text m.floats 240)))
      ≡ item_text (sets_in m)
  item_written lanes dynamic counts ints floats d l c n f =
      let is_d : dynamic ≡ has_some (sets_in m).dynamic_lanes = d
      ∙ some_told 510 (lane_counts true) dynamic_told m.dynamic_lanes h.dynamic_lanes in
      let is_one : (m.lanes == 1) ≡ is_one_lane (sets_in m).lanes = one_told 511 (lane_counts false) lanes_told m.lanes h.lanes in
      let is_l : lanes ≡ shows_lanes (sets_in m) = l ∙ (λ i. is_d i || not (is_one i)) in
      let is_n : ints ≡ has_some (sets_in m).ints = n ∙ some_told 248 (widths IntKind) ints_told m.ints h.ints in
      let is_f : floats ≡ has_some (sets_in m).floats = f ∙ some_told 240 (widths FloatKind) floats_told m.floats h.floats in
      ap (λ (x : Bool). shown_text lanes false (codes "lanes") (mask_text m.lanes 511)
      ++ (shown_text dynamic lanes (codes "dynamic") (mask_text m.dynamic_lanes 510)
      ++ (shown_text ints x (codes "ints") (mask_text m.ints 248)
      ++ shown_text floats (x || ints) (codes "floats") (mask_text m.floats 240)))) c
      ∙ from_left (shown_text lanes false (codes "lanes") (mask_text m.lanes 511))
      (shown_text dynamic lanes (codes "dynamic") (mask_text m.dynamic_lanes 510))
      (shown_text ints (lanes || dynamic) (codes "ints") (mask_text m.ints 248))
      (shown_text floats ((lanes || dynamic) || ints) (codes "floats") (mask_text m.floats 240))
      ∙ (λ i. written (is_l i) (is_d i) (is_n i) (is_f i))
      ∙ four_parts
