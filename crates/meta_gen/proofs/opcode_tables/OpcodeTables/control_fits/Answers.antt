use Rattle.std.proofs.Common.{rules}
use Rattle.meta_gen.proofs.opcode_tables.OpcodeTables.control_fits.Goals as goal

pub returns-in-Some : goal.returns-in-Some
returns-in-Some c = search rules
