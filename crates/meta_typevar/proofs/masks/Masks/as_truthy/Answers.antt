use Rattle.meta_typevar.proofs.ImageLemmas.{apart, truthy_image, vector_ints}
use Rattle.meta_typevar.proofs.masks.Masks.as_truthy.Goals as goal

pub returns-else-self-eq1 : goal.returns-else-self-eq1
returns-else-self-eq1 c = truthy_image c.args.self _ c.requires (vector_ints c.args.self c.requires (apart _ _ c.if-self-eq1.false))
