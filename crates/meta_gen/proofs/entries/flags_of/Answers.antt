use Rattle.std.proofs.Common.{◌≡◌, ◌-◌, ℕ, List, length}
use Rattle.meta_gen.proofs.Flags.{are_flags}
use Rattle.meta_gen.proofs.entries.flags_of.Goals as goal

-- how many are left
rest : (xs ys : List ℕ) (m n : ℕ) → xs ≡ ys → m ≡ n → length xs - m ≡ length ys - n
rest xs ys m n same count = cc

pub returns-clause-flags : goal.returns-clause-flags
returns-clause-flags c = λ vars registry are second_of of.
    are_flags vars c.args.operands.now c.result_count-results.ensures.within registry are second_of c.args.controls.now of _ _ _ _ _
    c.result_count-results.ensures.count
    (rest _ _ _ _ c.variables.ensures c.result_count-results.ensures.count)
    c.designated_controls.ensures c.first_result_controls.ensures
    c.packed.ensures.results c.packed.ensures.values c.packed.ensures.designated c.packed.ensures.differs c.packed.ensures.byte
