use Rattle.std.proofs.Common.{◌∙◌}
use Rattle.meta_types.proofs.Docs.{vector_documented}
use Rattle.meta_types.proofs.vector.VectorType.doc.Goals as goal

pub returns : goal.returns
returns c = c.of.ensures ∙ vector_documented c.args.self.now _ _ c.lane_count-lanes.ensures c.in_ok-doc.ensures.ok
