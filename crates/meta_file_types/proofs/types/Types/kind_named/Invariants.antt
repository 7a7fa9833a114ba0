use Rattle.meta_file_types.proofs.types.Types.kind_named.Given as goal

-- the same items
abbrev pub ghost-kind : goal.ghost-kind
ghost-kind g a = g.said

abbrev pub ghost-is_known : goal.ghost-is_known
ghost-is_known g a = g.said
