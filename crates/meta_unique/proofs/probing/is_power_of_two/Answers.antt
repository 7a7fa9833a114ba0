use Rattle.std.proofs.Common.{subst, arith}
use Rattle.std.proofs.lemmas.Bool.{eqb-true, eq-eqb}
use Rattle.std.specs.Int.{IsPowerOfTwo}
use Rattle.meta_unique.proofs.Sizes.{own_next, power_within}
use Rattle.meta_unique.proofs.probing.is_power_of_two.Goals as goal

pub returns-then-size : goal.returns-then-size
returns-then-size c = (λ t. (cc), λ p. absurd (omega (arith, power_within c.args.size p (omega arith))))

pub returns : goal.returns
returns c = (
  λ t. subst IsPowerOfTwo (eqb-true _ _ t) c.next_power_of_two.ensures.power,
  λ p. eq-eqb _ _ (own_next c.args.size _ p c.next_power_of_two.ensures.power c.next_power_of_two.ensures.lower_bound
      c.next_power_of_two.ensures.upper_bound),
)
