use Rattle.meta_file_types.proofs.types.Types.plain_type.Given as goal

-- the same items
abbrev pub ghost-new_plain : goal.ghost-new_plain
ghost-new_plain g a = g.said
