use Rattle.meta_file_declare.proofs.formats.with_named.Given as goal

-- the same items
abbrev pub ghost-kind_named : goal.ghost-kind_named
ghost-kind_named g a = g.said
