use Rattle.std.specs.Cmp.Lexicographic.{pointwise_decides}
use Rattle.std.proofs.lemmas.Bool.Decides.{Decides-eqb}
use Rattle.std.proofs.lemmas.Slice.Eq.{slice_eq-Decides}
use Rattle.meta_types.proofs.text.same_texts.Goals as goal

pub returns : goal.returns
returns c = slice_eq-Decides (pointwise_decides Decides-eqb) c.args.one.now c.args.other.now c.eq.result c.eq.ensures
