use Rattle.std.proofs.Common.{rules}
use Rattle.meta_rust_text.proofs.imm_builders.Method.extends_sign.Goals as goal

pub returns-in-SignExtends : goal.returns-in-SignExtends
returns-in-SignExtends c = search rules

pub returns-in-ZeroExtends : goal.returns-in-ZeroExtends
returns-in-ZeroExtends c = search rules
