use Rattle.meta_typevar.proofs.ImageLemmas.{lanes_halve_then}
use Rattle.meta_typevar.proofs.masks.Masks.has_lanes_to_halve.Goals as goal

pub returns-then-self-ne0 : goal.returns-then-self-ne0
returns-then-self-ne0 c = lanes_halve_then c.args.self c.requires c.if-self-ne0.true
