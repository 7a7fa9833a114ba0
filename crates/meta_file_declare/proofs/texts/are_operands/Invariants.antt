use Rattle.std.proofs.Common.{◌≡◌, drop}
use Rattle.meta_file_types.specs.Texts.{are_texts}
use Rattle.meta_file_declare.specs.InstTexts.{operand_texts}
use Rattle.meta_file_declare.proofs.texts.are_operands.Given as goal

-- what is left decides
abbrev pub invariant-loop-operand : goal.invariant-loop-operand
invariant-loop-operand l = are_texts (operand_texts (drop l.operand-index l.operands)) ≡ are_texts (operand_texts l.operands)
