use Rattle.meta_file_declare.proofs.insts.Insts.add.Given as goal

-- the same items
abbrev pub ghost-add_format : goal.ghost-add_format
ghost-add_format g a = g.above

abbrev pub ghost-add_inst : goal.ghost-add_inst
ghost-add_inst g a = g.above
