-- The operand constraints and the entries of tables, as the code keeps them.
use Rattle.meta_types.specs.Function.{LaneOf as LaneOfFunction, AsTruthy as AsTruthyFunction, HalfWidth as HalfWidthFunction}
use Rattle.meta_types.specs.Function.{DoubleWidth as DoubleWidthFunction, SplitLanes as SplitLanesFunction}
use Rattle.meta_types.specs.Function.{MergeLanes as MergeLanesFunction, DynamicToVector as DynamicToVectorFunction}
use Rattle.meta_types.specs.Function.{Narrower as NarrowerRelation, Wider as WiderRelation}
use Rattle.meta_inst.specs.Which.{First, Second}
use Rattle.meta_inst.specs.Tables.{NumberConstraint, ConcreteNumber, FreeOf, SameNumber, ByNumber, OpcodeNumbers}
use Rattle.meta_gen.specs.declared.constraint.Constraint.{Constraint}
use Rattle.meta_gen.specs.declared.constraint.Constraint.TheVariants.{Concrete, Free, Same, LaneOf, AsTruthy, HalfWidth}
use Rattle.meta_gen.specs.declared.constraint.Constraint.TheVariants.{DoubleWidth, SplitLanes, MergeLanes, DynamicToVector}
use Rattle.meta_gen.specs.declared.constraint.Constraint.TheVariants.{Narrower, Wider, Same2, LaneOf2, AsTruthy2, HalfWidth2}
use Rattle.meta_gen.specs.declared.constraint.Constraint.TheVariants.{DoubleWidth2, SplitLanes2, MergeLanes2, DynamicToVector2}
use Rattle.meta_gen.specs.declared.constraint.Constraint.TheVariants.{Narrower2, Wider2}
use Rattle.meta_gen.specs.declared.constraint.OpcodeConstraints.{OpcodeConstraints}

-- what a constraint asks of a number
abbrev pub number_constraint_of : Constraint → NumberConstraint
number_constraint_of (Concrete n) = ConcreteNumber n
number_constraint_of (Free j) = FreeOf j
number_constraint_of Same = SameNumber First
number_constraint_of LaneOf = ByNumber First LaneOfFunction
number_constraint_of AsTruthy = ByNumber First AsTruthyFunction
number_constraint_of HalfWidth = ByNumber First HalfWidthFunction
number_constraint_of DoubleWidth = ByNumber First DoubleWidthFunction
number_constraint_of SplitLanes = ByNumber First SplitLanesFunction
number_constraint_of MergeLanes = ByNumber First MergeLanesFunction
number_constraint_of DynamicToVector = ByNumber First DynamicToVectorFunction
number_constraint_of Narrower = ByNumber First NarrowerRelation
number_constraint_of Wider = ByNumber First WiderRelation
number_constraint_of Same2 = SameNumber Second
number_constraint_of LaneOf2 = ByNumber Second LaneOfFunction
number_constraint_of AsTruthy2 = ByNumber Second AsTruthyFunction
number_constraint_of HalfWidth2 = ByNumber Second HalfWidthFunction
number_constraint_of DoubleWidth2 = ByNumber Second DoubleWidthFunction
number_constraint_of SplitLanes2 = ByNumber Second SplitLanesFunction
number_constraint_of MergeLanes2 = ByNumber Second MergeLanesFunction
number_constraint_of DynamicToVector2 = ByNumber Second DynamicToVectorFunction
number_constraint_of Narrower2 = ByNumber Second NarrowerRelation
number_constraint_of Wider2 = ByNumber Second WiderRelation

-- the four numbers of an opcode
abbrev pub entry_of : OpcodeConstraints → OpcodeNumbers
entry_of e = record {
  flags = e.flags;
  typeset_offset = e.typeset_offset;
  second_offset = e.second_offset;
  constraint_offset = e.constraint_offset;
}
