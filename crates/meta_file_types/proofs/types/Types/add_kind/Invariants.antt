use Rattle.meta_file_types.proofs.types.Types.add_kind.Given as goal

-- the same items
abbrev pub ghost-sort_of : goal.ghost-sort_of
ghost-sort_of g a = g.said
