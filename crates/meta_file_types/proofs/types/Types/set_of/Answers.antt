use Rattle.std.proofs.Common.{◌∙◌, sym}
use Rattle.meta_file_types.proofs.Steps.{set_right, like_means}
use Rattle.meta_file_types.proofs.types.Types.set_of.Goals as goal

pub returns-in-None-clause-means : goal.returns-in-None-clause-means
returns-in-None-clause-means g c =
    set_right g.said.words c.args.set.now _ c.as_slice.result.now c.as_slice-in-None.result.now c.set_of_parts.result
    c.in-Parts.is
    c.as_slice.ensures c.as_slice-in-None.ensures (sym c.wrong_parts.ensures ∙ c.in-None.is) c.set_of_parts.ensures

pub returns-in-Like-clause-means : goal.returns-in-Like-clause-means
returns-in-Like-clause-means g c =
    like_means g.said c.args.set.now _ c.as_slice-in-Like.result.now c.in-Like.is c.as_slice-in-Like.ensures c.set_like.result
    c.set_like.ensures.means
