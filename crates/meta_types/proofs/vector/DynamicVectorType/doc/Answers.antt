use Rattle.std.proofs.Common.{◌∙◌}
use Rattle.meta_types.proofs.Docs.{dynamic_documented}
use Rattle.meta_types.proofs.vector.DynamicVectorType.doc.Goals as goal

pub returns : goal.returns
returns c = c.of.ensures ∙ dynamic_documented c.args.self.now _ _ c.minimum_lane_count-lanes.ensures c.in_ok-doc.ensures.ok
