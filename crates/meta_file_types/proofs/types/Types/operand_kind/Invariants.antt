use Rattle.meta_file_types.proofs.types.Types.operand_kind.Given as goal

-- the same items
abbrev pub ghost-kind_by_word : goal.ghost-kind_by_word
ghost-kind_by_word g a = g.said

abbrev pub ghost-value_kind : goal.ghost-value_kind
ghost-value_kind g a = g.said
