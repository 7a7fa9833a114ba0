use Rattle.std.proofs.Common.{rules}
use Rattle.meta_rust_insts.proofs.opcodes.number_type.Goals as goal

pub returns-else-count-gt-MAX_IN_A_BYTE : goal.returns-else-count-gt-MAX_IN_A_BYTE
returns-else-count-gt-MAX_IN_A_BYTE c = search rules
