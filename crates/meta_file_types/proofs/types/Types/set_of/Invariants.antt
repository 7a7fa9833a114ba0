use Rattle.meta_file_types.proofs.types.Types.set_of.Given as goal

-- the same items
abbrev pub ghost-set_like : goal.ghost-set_like
ghost-set_like g a = g.said
