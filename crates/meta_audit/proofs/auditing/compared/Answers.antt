use Rattle.std.proofs.Common.{below_more, subst₂}
use Rattle.meta_inst.specs.Tables.{TableContents}
use Rattle.meta_audit.specs.Comparison.{SameOpcode}
use Rattle.meta_audit.proofs.auditing.compared.Goals as goal

pub loop-place-preserved : goal.loop-place-preserved
loop-place-preserved c =
    below_more _ _ c.loop-place.invariant
    (subst₂ (λ (own other : TableContents). SameOpcode own other c.loop-place.place) c.opcodes.ensures
    c.opcodes-in-loop-place.ensures (c.same_opcode.ensures.0 c.if-not-same_opcode.false))
