use Rattle.std.proofs.Common.{◌∙◌, ◌++◌, ap, sym, map, List}
use Rattle.std.proofs.lemmas.List.{take_all, append-nil}
use Rattle.meta_types.specs.Lane.{lane_parts}
use Rattle.meta_types.specs.Vector.{least_lanes_of}
use Rattle.meta_types.specs.ValueTypes.{type_parts_of}
use Rattle.meta_types.specs.declared.lane.LaneType.{LaneType}
use Rattle.meta_typevar.proofs.Typing.{pushed_more}
use Rattle.meta_typevar.proofs.listing.push_dynamic.Goals as goal

pub loop-lane_type-init : goal.loop-lane_type-init
loop-lane_type-init c = sym (append-nil _)

pub loop-lane_type-preserved : goal.loop-lane_type-preserved
loop-lane_type-preserved c =
    pushed_more type_parts_of (λ (x : LaneType). least_lanes_of (lane_parts x) c.args.lanes) c.args.lane_types.now
    c.loop-lane_type.lane_type-index _ _ _ _ _ c.loop-lane_type-test.true c.in_ok-push.ensures.items
    c.to_dynamic.ensures c.loop-lane_type.invariant

pub returns : goal.returns
returns c = c.loop-lane_type.invariant
    ∙ ap (λ (xs : List LaneType). map type_parts_of c.args.types.now.items ++ map
    (λ (x : LaneType). least_lanes_of (lane_parts x) c.args.lanes) xs)
    (take_all c.loop-lane_type.lane_type-index c.args.lane_types.now c.loop-lane_type-test.false)
