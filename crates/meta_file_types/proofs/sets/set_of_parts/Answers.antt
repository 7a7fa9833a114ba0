use Rattle.meta_file_types.specs.Sets.{set_of_parts}
use Rattle.meta_file_types.proofs.OneSet.{one_set, parts_give, is_set}
use Rattle.meta_file_types.proofs.sets.set_of_parts.Goals as goal

pub returns : goal.returns
returns c =
    one_set c.in-Some.set (set_of_parts c.args.parts.now)
    (record {
      lanes = c.mask_of-lanes.result;
      dynamic_lanes = c.mask_of-dynamic_lanes.result;
      ints = c.mask_of-ints.result;
      floats = c.mask_of-floats.result;
    }) c.in-Some.ensures.sets (parts_give c.args.parts.now) c.in-Some.ensures.found
    (record {
      lanes = c.mask_of-lanes.ensures;
      dynamic_lanes = c.mask_of-dynamic_lanes.ensures;
      ints = c.mask_of-ints.ensures;
      floats = c.mask_of-floats.ensures;
    })

-- there is a set with these masks
pub unreachable-requires : goal.unreachable-requires
unreachable-requires c =
    is_set c.args.parts.now
    (record {
      lanes = c.mask_of-lanes.result;
      dynamic_lanes = c.mask_of-dynamic_lanes.result;
      ints = c.mask_of-ints.result;
      floats = c.mask_of-floats.result;
    }) c.in_default.ensures.none c.mask_of-lanes.ensures c.mask_of-dynamic_lanes.ensures c.mask_of-ints.ensures
    c.mask_of-floats.ensures
