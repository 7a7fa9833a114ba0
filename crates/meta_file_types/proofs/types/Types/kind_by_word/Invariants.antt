use Rattle.meta_file_types.proofs.types.Types.kind_by_word.Given as goal

-- the same items
abbrev pub ghost-kind : goal.ghost-kind
ghost-kind g a = g.said
