use Rattle.std.proofs.Common.{◌∙◌, ap, sym, subst}
use Rattle.meta_typevar.specs.Intervals.{CanBuild, sets_between}
use Rattle.meta_query.proofs.Choosing.{parts_are, can_build, builds, ok_and}
use Rattle.meta_query.proofs.seed.type_set.Goals as goal

pub build-requires : goal.build-requires
build-requires c =
    subst CanBuild (sym (parts_are c.args.seed c.least_width.result c.lanes.result c.new.result c.ints.result c.simd_lanes.result
    c.new.ensures c.ints.ensures c.simd_lanes.ensures c.least_width.ensures c.lanes.ensures))
    (can_build c.args.seed)

pub returns : goal.returns
returns c =
    let parts = parts_are c.args.seed c.least_width.result c.lanes.result c.new.result c.ints.result c.simd_lanes.result c.new.ensures
    c.ints.ensures c.simd_lanes.ensures c.least_width.ensures c.lanes.ensures in
    ok_and c.build.result _ _ (λ s e. e ∙ ap sets_between parts ∙ builds c.args.seed) c.build.ensures
