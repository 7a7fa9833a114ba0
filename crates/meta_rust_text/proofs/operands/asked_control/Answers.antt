use Rattle.std.proofs.Common.{rules}
use Rattle.meta_rust_text.proofs.operands.asked_control.Goals as goal

pub returns : goal.returns
returns c = search rules
