use Rattle.std.proofs.Common.{map, ap}
use Rattle.std.proofs.lemmas.Slice.Eq.{slice_eq-Decides}
use Rattle.meta_gen.specs.Constraint.{entry_of}
use Rattle.meta_gen.proofs.Sameness.{entry_decides, same_entry_lists}
use Rattle.meta_gen.proofs.same_opcodes.same_entries.Goals as goal

pub returns : goal.returns
returns c =
    let told = slice_eq-Decides entry_decides c.args.one.now c.args.other.now c.eq.result c.eq.ensures in
    ((λ t. ap (map entry_of) (told.0 t)), (λ e. told.1 (same_entry_lists c.args.one.now c.args.other.now e)))
