use Rattle.std.proofs.Common.{length, refl}
use Rattle.std.proofs.lemmas.Option.{slice_get_read}
use Rattle.meta_rust_insts.proofs.InTable.{first_has, later_have}
use Rattle.meta_rust_insts.proofs.opcodes.each_opcode.Goals as goal

pub push_opcode-requires : goal.push_opcode-requires
push_opcode-requires c = first_has c.args.formats.now _ _ _ c.in-Some.ensures.cases.0 c.requires

pub push_opcode-requires-in-loop-instruction : goal.push_opcode-requires-in-loop-instruction
push_opcode-requires-in-loop-instruction c =
    later_have c.args.formats.now _ _ _ c.in-Some.ensures.cases.0 c.requires c.loop-instruction.instruction-index c.instruction-item.result
    (slice_get_read c.in-Some.later.now (length c.in-Some.later.now) c.loop-instruction.instruction-index c.instruction-item.result
    refl c.loop-instruction-test.true c.instruction-item.is)
