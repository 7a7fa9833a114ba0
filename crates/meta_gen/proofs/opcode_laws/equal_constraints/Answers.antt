use Rattle.meta_gen.proofs.Overlapping.{decides}
use Rattle.meta_gen.proofs.opcode_laws.equal_constraints.Goals as goal

pub returns : goal.returns
returns c = λ x y. decides x y
