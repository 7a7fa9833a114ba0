use Rattle.meta_typevar.proofs.ImageLemmas.{double_image}
use Rattle.meta_typevar.proofs.masks.Masks.double_width.Goals as goal

pub returns : goal.returns
returns c = double_image c.args.self c.requires
