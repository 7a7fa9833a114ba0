use Rattle.std.proofs.Common.{refl}
use Rattle.meta_inst.specs.Tables.{result_count}
use Rattle.meta_asm.proofs.Writing.{part_of}
use Rattle.meta_asm.proofs.manner.result_constraints.Goals as goal

pub returns : goal.returns
returns c =
    let e = c.args.entry in
    part_of c.operand_constraints.result.now c.constraints_from.result.now c.args.tables.now.opcodes.operand_constraints e.constraint_offset
    c.result_count.result e.constraint_offset (result_count e.flags) c.constraints_from.ensures refl c.result_count.ensures.count
    c.operand_constraints.ensures
