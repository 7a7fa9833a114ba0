use Rattle.meta_file_declare.proofs.insts.Insts.add_format.Given as goal

-- the same items
abbrev pub ghost-format_of : goal.ghost-format_of
ghost-format_of g a = g.above.types
