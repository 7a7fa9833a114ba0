use Rattle.meta_file_types.proofs.types.Types.sort_of.Given as goal

-- the same items
abbrev pub ghost-type_var : goal.ghost-type_var
ghost-type_var g a = g.said
