use Rattle.std.proofs.Common.{◌∙◌}
use Rattle.meta_types.specs.ValueTypes.{type_parts_of}
use Rattle.meta_types.proofs.Typed.{typed}
use Rattle.meta_typevar.proofs.Singleton.{singleton_made}
use Rattle.meta_typevar.proofs.type_set.TypeSet.singleton.Goals as goal

pub from_masks-requires : goal.from_masks-requires
from_masks-requires c =
    (singleton_made (type_parts_of c.args.value_type) _ _ _ _ _ _
    (typed c.args.value_type) c.lane_of-lane.ensures.kind c.lane_of-lane.ensures.width
    c.least_lanes-lanes.ensures.lanes c.dynamic_mask.ensures c.int_mask.ensures c.float_mask.ensures).masks

pub returns : goal.returns
returns c =
    c.from_masks.ensures ∙ (singleton_made (type_parts_of c.args.value_type) _ _ _ _ _ _
    (typed c.args.value_type) c.lane_of-lane.ensures.kind c.lane_of-lane.ensures.width
    c.least_lanes-lanes.ensures.lanes c.dynamic_mask.ensures c.int_mask.ensures c.float_mask.ensures).sets
