use Rattle.meta_file_declare.proofs.insts.Insts.add_inst.Given as goal

-- the same items
abbrev pub ghost-inst_of : goal.ghost-inst_of
ghost-inst_of g a = g.above.types
