use Rattle.std.proofs.Common.{◌≡◌, ◌++◌, take}
use Rattle.meta_operands.specs.Operand.{variables_of}
use Rattle.meta_inst.proofs.operands.push_variables.Given as goal

-- the variables of the operands so far are added
abbrev pub invariant-loop-operand : goal.invariant-loop-operand
invariant-loop-operand l = l.out.items ≡ l.initial.out.items ++ variables_of (take l.operand-index l.operands)
