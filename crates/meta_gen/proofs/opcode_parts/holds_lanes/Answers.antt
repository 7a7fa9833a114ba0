use Rattle.std.proofs.Common.{arith}
use Rattle.std.proofs.lemmas.Bool.Decides.{nat_tests}
use Rattle.meta_gen.proofs.MaskTests.{lanes_held, lanes_few}
use Rattle.meta_gen.proofs.opcode_parts.holds_lanes.Goals as goal

pub returns : goal.returns
returns c = (λ t. lanes_held c.args.mask (grind (arith, nat_tests)), λ h. let l = lanes_few c.args.mask h in grind (arith, nat_tests))
