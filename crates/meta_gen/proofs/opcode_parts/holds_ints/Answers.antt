use Rattle.std.proofs.lemmas.Bool.{eqb-true, eq-eqb}
use Rattle.meta_gen.proofs.MaskTests.{ints_held, ints_told}
use Rattle.meta_gen.proofs.opcode_parts.holds_ints.Goals as goal

pub returns : goal.returns
returns c = (λ t. ints_held c.args.mask c.ranges.mask.fits (eqb-true _ _ t), λ h. eq-eqb _ _ (ints_told c.args.mask c.ranges.mask.fits h))
