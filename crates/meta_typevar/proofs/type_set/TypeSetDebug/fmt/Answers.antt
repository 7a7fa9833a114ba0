use Rattle.std.proofs.Common.{◌∙◌, ap}
use Rattle.std.proofs.Output.{has_written_of_eq}
use Rattle.meta_typevar.specs.Concrete.{set_text}
use Rattle.meta_typevar.specs.MaskSets.{sets_in}
use Rattle.meta_typevar.proofs.SetText.{set_shown}
use Rattle.meta_typevar.proofs.type_set.TypeSetDebug.fmt.Goals as goal

pub returns : goal.returns
returns g c =
    let text =
    set_shown (sets_in c.self.inside.masks) c.lane_numbers.result c.dynamic_lane_numbers.result c.int_numbers.result
    c.lane_numbers-2.result c.dynamic_lane_numbers-2.result c.int_numbers-2.result c.float_numbers.result c.has_some-has_lanes.result
    c.has_some.result c.has_some-2.result
    c.lane_numbers.ensures c.dynamic_lane_numbers.ensures c.int_numbers.ensures c.has_some-has_lanes.ensures c.has_some.ensures
    c.has_some-2.ensures
    c.lane_numbers-2.ensures c.dynamic_lane_numbers-2.ensures c.int_numbers-2.ensures c.float_numbers.ensures
    ∙ ap set_text c.self.view_is in
    record { writes = λ plain ok. has_written_of_eq _ _ _ _ _ text (c.write.ensures.writes plain ok) }
