-- What is chosen for an instruction: the type set of its root variable.
use Rattle.std.proofs.Common.{◌≡◌, ◌<◌, ◌≤◌, ◌*◌, ◌/◌, ◌%◌, ◌^◌, ◌==◌, ◌&&◌, ℕ, zero, suc, Bool, true, false, not, cond, IsTrue, Result, Ok}
use Rattle.std.proofs.Common.{Err, IsOkAnd, IfOk, refl, sym, ap, subst, ◌∙◌, arith}
use Rattle.std.proofs.lemmas.Nat.{mod_below}
use Rattle.meta_types.specs.TypeParts.{TypeParts, IntKind, widths, lane_counts, scalar}
use Rattle.meta_types.specs.Function.{Narrower}
use Rattle.meta_types.proofs.Among.{contains}
use Rattle.meta_typevar.specs.TypeSetParts.{TypeSetParts, IsMember, HasOne}
use Rattle.meta_typevar.specs.Image.{can_derive}
use Rattle.meta_typevar.specs.Intervals.{Intervals, nothing_set, CanBuild, sets_between}
use Rattle.meta_typevar.specs.declared.interval.Interval.{Interval}
use Rattle.meta_typevar.specs.declared.interval.Interval.TheVariants.{None as Nothing, All as Everything, Range as Between}
use Rattle.meta_typevar.proofs.Finite.{is_in, is_in_among}
use Rattle.meta_query.specs.declared.shape.Shape.TheVariants.{Widening}
use Rattle.meta_query.specs.Seeds.{shape_of, least_width_of, has_vectors, is_widening, ints_from, set_of_seed}

-- one of three
third : (P : ℕ → Type 0) → P 8 → P 16 → P 32 → (a : ℕ) → a < 3 → P (8 * 2 ^ a)
third P p q r zero l = p
third P p q r (suc zero) l = q
third P p q r (suc (suc zero)) l = r
third P p q r (suc (suc (suc a))) l = absurd (omega arith)

-- the least width is 8, 16 or 32
pub for_each_width : (P : ℕ → Type 0) → P 8 → P 16 → P 32 → (seed : ℕ) → P (least_width_of seed)
for_each_width P p q r seed = third P p q r (seed / 4 % 3) (mod_below (seed / 4) 3 (omega arith))

-- an integer type of one lane, of a width that the set has
member : (s : TypeSetParts) (w : ℕ) → is_in (widths IntKind) w ≡ true → is_in s.ints w ≡ true → is_in s.lanes 1 ≡ true
    → IsMember s (scalar IntKind w)
member s w known has one = record {
  is_type = record {
    width = contains (widths IntKind) w (is_in_among (widths IntKind) w known);
    lanes = contains (lane_counts false) 1 (is_in_among (lane_counts false) 1 refl);
  };
  width = contains s.ints w (is_in_among s.ints w has);
  lanes = contains s.lanes 1 (is_in_among s.lanes 1 one);
}

-- a set with `i64` and `i128` has more than one type
has_two : (s : TypeSetParts) → is_in s.ints 64 ≡ true → is_in s.ints 128 ≡ true → is_in s.lanes 1 ≡ true → HasOne s → ⊥
has_two s has more one h =
    let same : scalar IntKind 64 ≡ scalar IntKind 128 = h.only _ (member s 64 refl has one) ∙ sym (h.only _ (member s 128 refl more one)) in
    let widths_same : 64 ≡ 128 = ap (λ (t : TypeParts). t.width) same in
    omega (arith, widths_same)

one_lane : (least : ℕ) (v : Bool) → is_in (ints_from least v).lanes 1 ≡ true
one_lane least true = refl
one_lane least false = refl

-- X has more than one type
pub several : (seed : ℕ) → HasOne (set_of_seed seed) → ⊥
several seed = for_each_width (λ least. (v : Bool) → HasOne (ints_from least v) → ⊥)
    (λ v. has_two (ints_from 8 v) refl refl (one_lane 8 v))
    (λ v. has_two (ints_from 16 v) refl refl (one_lane 16 v))
    (λ v. has_two (ints_from 32 v) refl refl (one_lane 32 v))
    seed (has_vectors seed)

-- what is widened has no vectors
and_not : (a : Bool) → (a && false) ≡ false
and_not true = refl
and_not false = refl

no_vectors : (seed : ℕ) → shape_of seed ≡ Widening → has_vectors seed ≡ false
no_vectors seed e = ap (λ shape. (seed / 12 % 2 == 1) && not (is_widening shape)) e ∙ and_not (seed / 12 % 2 == 1)

-- so a narrower variable can be derived from it
pub can_narrow : (seed : ℕ) → shape_of seed ≡ Widening → IsTrue (can_derive Narrower (set_of_seed seed))
can_narrow seed e = subst (λ v. IsTrue (can_derive Narrower (ints_from (least_width_of seed) v))) (sym (no_vectors seed e))
    (for_each_width (λ least. IsTrue (can_derive Narrower (ints_from least false))) refl refl refl seed)

-- ---- its set is built

-- the parts of which it is built
abbrev parts : ℕ → Interval → Intervals
parts least lanes = record {
  ints = Between (record { start = least; end = 128 });
  floats = Nothing;
  simd_lanes = lanes;
  dynamic_simd_lanes = Nothing;
  includes_scalars = true;
}

abbrev lanes_for : Bool → Interval
lanes_for vectors = cond vectors Everything Nothing

abbrev pub parts_of : ℕ → Intervals
parts_of seed = parts (least_width_of seed) (lanes_for (has_vectors seed))

pub parts_are : (seed least : ℕ) (lanes : Interval) (one two three : Intervals) → one ≡ nothing_set
    → two ≡ record one { ints = Between (record { start = least; end = 128 }) } → three ≡ record two { simd_lanes = lanes }
    → least ≡ least_width_of seed → lanes ≡ lanes_for (has_vectors seed) → three ≡ parts_of seed
parts_are seed least lanes one two three a b c is_least are_lanes =
    c ∙ ap (λ (p : Intervals). record p { simd_lanes = lanes }) (b
    ∙ ap (λ (p : Intervals). record p { ints = Between (record { start = least; end = 128 }) }) a)
    ∙ (λ i. parts (is_least i) (are_lanes i))

can_build_parts : (least : ℕ) (v : Bool) → is_in (widths IntKind) least ≡ true → least ≤ 128 → CanBuild (parts least (lanes_for v))
can_build_parts least true known low =
    record {
      ints = (
        contains (widths IntKind) least (is_in_among (widths IntKind) least known),
        contains (widths IntKind) 128 (is_in_among (widths IntKind) 128 refl),
        low,
      );
      floats = tt;
      simd_lanes = tt;
      dynamic_simd_lanes = tt;
    }
can_build_parts least false known low =
    record {
      ints = (
        contains (widths IntKind) least (is_in_among (widths IntKind) least known),
        contains (widths IntKind) 128 (is_in_among (widths IntKind) 128 refl),
        low,
      );
      floats = tt;
      simd_lanes = tt;
      dynamic_simd_lanes = tt;
    }

pub can_build : (seed : ℕ) → CanBuild (parts_of seed)
can_build seed = for_each_width (λ least. (v : Bool) → CanBuild (parts least (lanes_for v)))
    (λ v. can_build_parts 8 v refl (omega arith)) (λ v. can_build_parts 16 v refl (omega arith))
    (λ v. can_build_parts 32 v refl (omega arith))
    seed (has_vectors seed)

built : (least : ℕ) (v : Bool) → sets_between (parts least (lanes_for v)) ≡ ints_from least v
built least true = refl
built least false = refl

pub builds : (seed : ℕ) → sets_between (parts_of seed) ≡ set_of_seed seed
builds seed = built (least_width_of seed) (has_vectors seed)

-- what is said where there is no error
pub ok_and : {T E : Type 0} (r : Result T E) (P Q : T → Type 0) → ((x : T) → P x → Q x) → IsOkAnd r P → IfOk r Q
ok_and (Ok x) P Q f h = f x h
ok_and (Err e) P Q f h = tt
