use Rattle.std.proofs.Common.{rules}
use Rattle.meta_rust_text.specs.MethodBody.{passed_operands}
use Rattle.meta_rust_text.proofs.constructor_call.passed_operands.Goals as goal

pub returns : goal.returns
unfolding passed_operands
returns c = search rules
