use Rattle.std.proofs.Common.{◌≡◌, take}
use Rattle.meta_inst.proofs.content.copied_operands.Given as goal

-- the operands so far are copied
abbrev pub invariant-loop-operand : goal.invariant-loop-operand
invariant-loop-operand l = l.copied.items ≡ take l.operand-index l.operands
