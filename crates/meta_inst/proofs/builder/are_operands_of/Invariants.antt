use Rattle.std.proofs.Common.{take}
use Rattle.meta_operands.specs.Operand.{variables_of}
use Rattle.meta_inst.specs.Operands.{AreOf}
use Rattle.meta_inst.proofs.builder.are_operands_of.Given as goal

-- the variables of the operands so far are of the registry
abbrev pub invariant-loop-operand : goal.invariant-loop-operand
invariant-loop-operand l = AreOf l.vars (variables_of (take l.operand-index l.operands))
