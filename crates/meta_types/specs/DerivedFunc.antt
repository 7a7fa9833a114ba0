-- The derived functions of the program as contracts see them.
--     function_of f          the derived function that is meant
--     function_name f        its name, as `lane_of`
--     camel_function_name f  its name in camel case, as `LaneOf`
use Rattle.std.specs.Prelude.{ℕ, List, codes}
use Rattle.meta_types.specs.CamelCase.{camel_case_of}
use Rattle.meta_types.specs.Function.{Function, LaneOf, AsTruthy, HalfWidth, DoubleWidth, SplitLanes, MergeLanes, DynamicToVector, Narrower}
use Rattle.meta_types.specs.Function.{Wider}
use Rattle.meta_types.specs.declared.derived_func.DerivedFunc.{DerivedFunc}
use Rattle.meta_types.specs.declared.derived_func.DerivedFunc.TheVariants.{LaneOf as LaneOfFunc, AsTruthy as AsTruthyFunc}
use Rattle.meta_types.specs.declared.derived_func.DerivedFunc.TheVariants.{HalfWidth as HalfWidthFunc, DoubleWidth as DoubleWidthFunc}
use Rattle.meta_types.specs.declared.derived_func.DerivedFunc.TheVariants.{SplitLanes as SplitLanesFunc, MergeLanes as MergeLanesFunc}
use Rattle.meta_types.specs.declared.derived_func.DerivedFunc.TheVariants.{DynamicToVector as DynamicToVectorFunc, Narrower as NarrowerFunc}
use Rattle.meta_types.specs.declared.derived_func.DerivedFunc.TheVariants.{Wider as WiderFunc}

-- the derived function that is meant
abbrev pub function_of : DerivedFunc → Function
function_of LaneOfFunc = LaneOf
function_of AsTruthyFunc = AsTruthy
function_of HalfWidthFunc = HalfWidth
function_of DoubleWidthFunc = DoubleWidth
function_of SplitLanesFunc = SplitLanes
function_of MergeLanesFunc = MergeLanes
function_of DynamicToVectorFunc = DynamicToVector
function_of NarrowerFunc = Narrower
function_of WiderFunc = Wider

-- its name, in snake case
abbrev pub function_name : Function → List ℕ
function_name LaneOf = codes "lane_of"
function_name AsTruthy = codes "as_truthy"
function_name HalfWidth = codes "half_width"
function_name DoubleWidth = codes "double_width"
function_name SplitLanes = codes "split_lanes"
function_name MergeLanes = codes "merge_lanes"
function_name DynamicToVector = codes "dynamic_to_vector"
function_name Narrower = codes "narrower"
function_name Wider = codes "wider"

-- its name in camel case, as the variants of constraints have it
abbrev pub camel_function_name : Function → List ℕ
camel_function_name f = camel_case_of (function_name f)
