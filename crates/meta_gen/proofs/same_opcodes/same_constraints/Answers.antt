use Rattle.std.proofs.Common.{map, ap}
use Rattle.std.proofs.lemmas.Slice.Eq.{slice_eq-Decides}
use Rattle.meta_gen.specs.Constraint.{number_constraint_of}
use Rattle.meta_gen.proofs.Overlapping.{decides}
use Rattle.meta_gen.proofs.Sameness.{same_numbers}
use Rattle.meta_gen.proofs.same_opcodes.same_constraints.Goals as goal

pub returns : goal.returns
returns c =
    let told = slice_eq-Decides decides c.args.one.now c.args.other.now c.eq.result c.eq.ensures in
    ((λ t. ap (map number_constraint_of) (told.0 t)), (λ e. told.1 (same_numbers c.args.one.now c.args.other.now e)))
