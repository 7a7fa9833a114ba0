use Rattle.std.proofs.Common.{length, refl}
use Rattle.std.proofs.lemmas.Option.{slice_get_read}
use Rattle.meta_rust_text.proofs.builder_items.push_each_instruction.Goals as goal

pub push_method-requires : goal.push_method-requires
push_method-requires c =
    c.requires c.loop-instruction.instruction-index c.instruction-item.result
    (slice_get_read c.args.instructions.now (length c.args.instructions.now) c.loop-instruction.instruction-index c.instruction-item.result
    refl c.loop-instruction-test.true c.instruction-item.is)

pub push_imm_methods-requires : goal.push_imm_methods-requires
push_imm_methods-requires c =
    c.requires c.loop-instruction.instruction-index c.instruction-item.result
    (slice_get_read c.args.instructions.now (length c.args.instructions.now) c.loop-instruction.instruction-index c.instruction-item.result
    refl c.loop-instruction-test.true c.instruction-item.is)
