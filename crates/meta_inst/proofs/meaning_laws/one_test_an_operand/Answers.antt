use Rattle.meta_inst.proofs.Constrained.{one_test}
use Rattle.meta_inst.proofs.meaning_laws.one_test_an_operand.Goals as goal

pub returns : goal.returns
returns c = one_test
