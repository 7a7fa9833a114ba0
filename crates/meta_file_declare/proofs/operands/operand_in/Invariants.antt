use Rattle.meta_file_declare.proofs.operands.operand_in.Given as goal

-- the same items
abbrev pub ghost-operand_kind : goal.ghost-operand_kind
ghost-operand_kind g a = g.said
