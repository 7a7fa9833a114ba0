use Rattle.meta_typevar.proofs.ImageLemmas.{split_image}
use Rattle.meta_typevar.proofs.masks.Masks.split_lanes.Goals as goal

pub returns : goal.returns
returns c = split_image c.args.self _ c.requires c.half_width.ensures
