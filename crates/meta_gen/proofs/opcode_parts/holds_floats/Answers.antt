use Rattle.std.proofs.lemmas.Bool.{eqb-true, eq-eqb}
use Rattle.meta_gen.proofs.MaskTests.{floats_held, floats_told}
use Rattle.meta_gen.proofs.opcode_parts.holds_floats.Goals as goal

pub returns : goal.returns
returns c = (
  λ t. floats_held c.args.mask c.ranges.mask.fits (eqb-true _ _ t),
  λ h. eq-eqb _ _ (floats_told c.args.mask c.ranges.mask.fits h),
)
