use Rattle.meta_file_declare.proofs.formats.with_slot.Given as goal

-- the same items
abbrev pub ghost-with_named : goal.ghost-with_named
ghost-with_named g a = g.said
