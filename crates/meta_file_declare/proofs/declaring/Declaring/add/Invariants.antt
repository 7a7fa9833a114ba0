use Rattle.meta_file_declare.proofs.declaring.Declaring.add.Given as goal

-- the same items
abbrev pub ghost-add_to_set : goal.ghost-add_to_set
ghost-add_to_set g a = g.above
