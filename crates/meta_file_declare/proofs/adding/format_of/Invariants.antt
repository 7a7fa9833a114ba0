use Rattle.meta_file_declare.proofs.adding.format_of.Given as goal

-- the same items
abbrev pub ghost-with_slots : goal.ghost-with_slots
ghost-with_slots g a = g.said
