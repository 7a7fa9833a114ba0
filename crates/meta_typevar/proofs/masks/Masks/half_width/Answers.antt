use Rattle.meta_typevar.proofs.ImageLemmas.{half_image}
use Rattle.meta_typevar.proofs.masks.Masks.half_width.Goals as goal

pub returns : goal.returns
returns c = half_image c.args.self c.requires
