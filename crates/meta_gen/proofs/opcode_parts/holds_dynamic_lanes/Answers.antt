use Rattle.std.proofs.Common.{arith}
use Rattle.std.proofs.lemmas.Bool.{eqb-true, eq-eqb, false≢true}
use Rattle.meta_gen.proofs.MaskTests.{dynamic_held, dynamic_few, dynamic_even}
use Rattle.meta_gen.proofs.opcode_parts.holds_dynamic_lanes.Goals as goal

pub returns-then-mask-gt-ALL_DYNAMIC_LANES : goal.returns-then-mask-gt-ALL_DYNAMIC_LANES
returns-then-mask-gt-ALL_DYNAMIC_LANES c = (λ t. absurd (false≢true t), λ h. let l = dynamic_few c.args.mask h in absurd (omega arith))

pub returns : goal.returns
returns c = (λ t. dynamic_held c.args.mask (omega arith) (eqb-true _ _ t), λ h. eq-eqb _ _ (dynamic_even c.args.mask h))
