use Rattle.std.proofs.Common.{◌∙◌, arith, refl, sym}
use Rattle.std.proofs.lemmas.Bool.{false≢true}
use Rattle.meta_typevar.proofs.Fixing.{number_between}
use Rattle.meta_typevar.proofs.fixed.all_reach.Goals as goal

pub loop-number-init : goal.loop-number-init
loop-number-init c = λ r h from below. absurd (omega (arith, from, below))

pub returns-then-not-member_reaches : goal.returns-then-not-member_reaches
returns-then-not-member_reaches c = (
  λ t. absurd (false≢true t),
  λ all. sym c.if-not-member_reaches.true ∙ c.member_reaches.ensures.1 (λ r h e. all r h (omega (arith, e, c.loop-number.auto.number))),
)

pub returns : goal.returns
returns c = (
  (λ _ r h from. let high = (number_between r h.is_type).1 in
      c.loop-number.invariant r h from (omega (arith, high, c.loop-number-test.false))),
  (λ _. refl),
)
