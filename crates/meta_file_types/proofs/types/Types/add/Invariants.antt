use Rattle.meta_file_types.proofs.types.Types.add.Given as goal

-- the same items
abbrev pub ghost-add_type : goal.ghost-add_type
ghost-add_type g a = g.said

abbrev pub ghost-add_alias : goal.ghost-add_alias
ghost-add_alias g a = g.said

abbrev pub ghost-add_kind : goal.ghost-add_kind
ghost-add_kind g a = g.said
