use Rattle.meta_file_types.proofs.types.Types.type_named.Given as goal

-- the same items
abbrev pub ghost-plain_type : goal.ghost-plain_type
ghost-plain_type g a = g.said

abbrev pub ghost-kept_type : goal.ghost-kept_type
ghost-kept_type g a = g.said
