use Rattle.std.proofs.lemmas.Slice.Eq.{slice_eq-Decides}
use Rattle.meta_gen.proofs.Sameness.{masks_decide}
use Rattle.meta_gen.proofs.same_opcodes.same_masks.Goals as goal

pub returns : goal.returns
returns c = slice_eq-Decides masks_decide c.args.one.now c.args.other.now c.eq.result c.eq.ensures
