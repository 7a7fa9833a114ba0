use Rattle.std.proofs.lemmas.Bool.Decides.{Decides-eqb}
use Rattle.std.proofs.lemmas.Slice.Eq.{slice_eq-Decides}
use Rattle.meta_lists.proofs.Options.{option_decides}
use Rattle.meta_unique.proofs.names.same_slots.Goals as goal

pub returns : goal.returns
returns c = slice_eq-Decides (option_decides Decides-eqb) c.args.one.now c.args.other.now c.eq.result c.eq.ensures
