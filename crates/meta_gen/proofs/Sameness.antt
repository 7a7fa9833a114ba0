-- Lists that compare equal are the same.
use Rattle.std.proofs.Common.{rules, ◌≡◌, true, List, map, refl, sym, ap, ◌∙◌}
use Rattle.std.specs.Bool.{Decides}
use Rattle.meta_lists.proofs.Mapped.{same_mapped}
use Rattle.meta_types.specs.Function.{Function, LaneOf as LaneOfFunction, AsTruthy as AsTruthyFunction, HalfWidth as HalfWidthFunction}
use Rattle.meta_types.specs.Function.{DoubleWidth as DoubleWidthFunction, SplitLanes as SplitLanesFunction}
use Rattle.meta_types.specs.Function.{MergeLanes as MergeLanesFunction, DynamicToVector as DynamicToVectorFunction}
use Rattle.meta_types.specs.Function.{Narrower as NarrowerRelation, Wider as WiderRelation}
use Rattle.meta_inst.specs.Which.{Which, First, Second}
use Rattle.meta_typevar.specs.declared.masks.Masks.{Masks}
use Rattle.meta_typevar.specs.contracts.masks.MasksPartialEq.TheImpl.{eq-value as masks_eq}
use Rattle.meta_inst.specs.Tables.{NumberConstraint, ConcreteNumber, FreeOf, SameNumber, ByNumber, OpcodeNumbers}
use Rattle.meta_gen.specs.Constraint.{number_constraint_of, entry_of}
use Rattle.meta_gen.specs.contracts.constraint.OpcodeConstraintsPartialEq.TheImpl.{eq-value as entry_eq}
use Rattle.meta_gen.specs.declared.constraint.Constraint.{Constraint}
use Rattle.meta_gen.specs.declared.constraint.Constraint.TheVariants.{Concrete, Free, Same, LaneOf, AsTruthy, HalfWidth}
use Rattle.meta_gen.specs.declared.constraint.Constraint.TheVariants.{DoubleWidth, SplitLanes, MergeLanes, DynamicToVector}
use Rattle.meta_gen.specs.declared.constraint.Constraint.TheVariants.{Narrower, Wider, Same2, LaneOf2, AsTruthy2, HalfWidth2}
use Rattle.meta_gen.specs.declared.constraint.Constraint.TheVariants.{DoubleWidth2, SplitLanes2, MergeLanes2, DynamicToVector2}
use Rattle.meta_gen.specs.declared.constraint.Constraint.TheVariants.{Narrower2, Wider2}
use Rattle.meta_gen.specs.declared.constraint.OpcodeConstraints.{OpcodeConstraints}

masks_are : (a b : Masks) → masks_eq.it a b ≡ true → a ≡ b
masks_are a b e =
    let lanes : a.lanes ≡ b.lanes = search rules in
    let dynamic_lanes : a.dynamic_lanes ≡ b.dynamic_lanes = search rules in
    let ints : a.ints ≡ b.ints = search rules in
    let floats : a.floats ≡ b.floats = search rules in
    λ i. record { lanes = lanes i; dynamic_lanes = dynamic_lanes i; ints = ints i; floats = floats i }

are_masks : (a b : Masks) → a ≡ b → masks_eq.it a b ≡ true
are_masks a b e = search rules

pub masks_decide : (a b : Masks) → Decides (masks_eq.it a b) (a ≡ b)
masks_decide a b = (masks_are a b, are_masks a b)

entry_is : (a b : OpcodeConstraints) → entry_eq.it a b ≡ true → a ≡ b
entry_is a b e =
    let flags : a.flags ≡ b.flags = search rules in
    let typeset_offset : a.typeset_offset ≡ b.typeset_offset = search rules in
    let second_offset : a.second_offset ≡ b.second_offset = search rules in
    let constraint_offset : a.constraint_offset ≡ b.constraint_offset = search rules in
    λ i. record {
      flags = flags i;
      typeset_offset = typeset_offset i;
      second_offset = second_offset i;
      constraint_offset = constraint_offset i;
    }

is_entry : (a b : OpcodeConstraints) → a ≡ b → entry_eq.it a b ≡ true
is_entry a b e = search rules

pub entry_decides : (a b : OpcodeConstraints) → Decides (entry_eq.it a b) (a ≡ b)
entry_decides a b = (entry_is a b, is_entry a b)

-- ---- constraints by their numbers

-- the constraint that asks for what a function gives of a control
abbrev by_function : Which → Function → Constraint
by_function First LaneOfFunction = LaneOf
by_function First AsTruthyFunction = AsTruthy
by_function First HalfWidthFunction = HalfWidth
by_function First DoubleWidthFunction = DoubleWidth
by_function First SplitLanesFunction = SplitLanes
by_function First MergeLanesFunction = MergeLanes
by_function First DynamicToVectorFunction = DynamicToVector
by_function First NarrowerRelation = Narrower
by_function First WiderRelation = Wider
by_function Second LaneOfFunction = LaneOf2
by_function Second AsTruthyFunction = AsTruthy2
by_function Second HalfWidthFunction = HalfWidth2
by_function Second DoubleWidthFunction = DoubleWidth2
by_function Second SplitLanesFunction = SplitLanes2
by_function Second MergeLanesFunction = MergeLanes2
by_function Second DynamicToVectorFunction = DynamicToVector2
by_function Second NarrowerRelation = Narrower2
by_function Second WiderRelation = Wider2

-- the constraint that is meant
abbrev pub constraint_from : NumberConstraint → Constraint
constraint_from (ConcreteNumber n) = Concrete n
constraint_from (FreeOf j) = Free j
constraint_from (SameNumber First) = Same
constraint_from (SameNumber Second) = Same2
constraint_from (ByNumber a f) = by_function a f

pub number_constraint_back : (x : NumberConstraint) → number_constraint_of (constraint_from x) ≡ x
number_constraint_back (ConcreteNumber n) = refl
number_constraint_back (FreeOf j) = refl
number_constraint_back (SameNumber First) = refl
number_constraint_back (SameNumber Second) = refl
number_constraint_back (ByNumber First LaneOfFunction) = refl
number_constraint_back (ByNumber First f) = refl
number_constraint_back (ByNumber Second LaneOfFunction) = refl
number_constraint_back (ByNumber Second f) = refl

pub constraint_back : (x : Constraint) → constraint_from (number_constraint_of x) ≡ x
constraint_back (Concrete n) = refl
constraint_back x = refl

pub same_number : (x y : Constraint) → number_constraint_of x ≡ number_constraint_of y → x ≡ y
same_number x y e = sym (constraint_back x) ∙ ap constraint_from e ∙ constraint_back y

pub same_numbers : (xs ys : List Constraint) → map number_constraint_of xs ≡ map number_constraint_of ys → xs ≡ ys
same_numbers = same_mapped number_constraint_of constraint_from constraint_back

abbrev entry_from : OpcodeNumbers → OpcodeConstraints
entry_from e = record {
  flags = e.flags;
  typeset_offset = e.typeset_offset;
  second_offset = e.second_offset;
  constraint_offset = e.constraint_offset;
}

pub same_entry_lists : (xs ys : List OpcodeConstraints) → map entry_of xs ≡ map entry_of ys → xs ≡ ys
same_entry_lists = same_mapped entry_of entry_from (λ x. refl)
