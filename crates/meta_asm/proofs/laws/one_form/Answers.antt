use Rattle.meta_asm.proofs.OneOutput.{one_form}
use Rattle.meta_asm.proofs.laws.one_form.Goals as goal

pub returns : goal.returns
returns c = one_form
