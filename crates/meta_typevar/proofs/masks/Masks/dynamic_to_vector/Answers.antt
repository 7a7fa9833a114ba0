use Rattle.meta_typevar.proofs.ImageLemmas.{fixed_image}
use Rattle.meta_typevar.proofs.masks.Masks.dynamic_to_vector.Goals as goal

pub returns : goal.returns
returns c = fixed_image c.args.self c.requires
