use Rattle.meta_typevar.proofs.ImageLemmas.{lane_image}
use Rattle.meta_typevar.proofs.masks.Masks.lane_of.Goals as goal

pub returns : goal.returns
returns c = lane_image c.args.self c.requires
