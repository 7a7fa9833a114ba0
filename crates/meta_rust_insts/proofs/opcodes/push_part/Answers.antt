use Rattle.std.proofs.Common.{rules, sym}
use Rattle.meta_rust_insts.proofs.EnumTemplates.{opcodes_same}
use Rattle.meta_rust_insts.proofs.opcodes.push_part.Goals as goal

pub returns : goal.returns
returns c = rw (sym (opcodes_same c.args.repr.now c.args.formats.now c.args.instructions.now)) (search rules)
