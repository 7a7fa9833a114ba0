use Rattle.meta_typevar.proofs.ImageLemmas.{halve_then}
use Rattle.meta_typevar.proofs.masks.Masks.can_halve.Goals as goal

pub returns-then-self-eq0 : goal.returns-then-self-eq0
returns-then-self-eq0 c = halve_then c.args.self c.requires c.if-self-eq0.true
