use Rattle.meta_typevar.proofs.ImageLemmas.{merge_image}
use Rattle.meta_typevar.proofs.masks.Masks.merge_lanes.Goals as goal

pub returns : goal.returns
returns c = merge_image c.args.self _ c.requires c.double_width.ensures
