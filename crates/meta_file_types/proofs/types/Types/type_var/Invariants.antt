use Rattle.meta_file_types.proofs.types.Types.type_var.Given as goal

-- the same items
abbrev pub ghost-type_named : goal.ghost-type_named
ghost-type_named g a = g.said
