use Rattle.meta_typevar.proofs.ImageLemmas.{double_then}
use Rattle.meta_typevar.proofs.masks.Masks.can_double.Goals as goal

pub returns-then-self-eq0 : goal.returns-then-self-eq0
returns-then-self-eq0 c = double_then c.args.self c.requires c.if-self-eq0.true
