use Rattle.meta_file_types.specs.Said.{after_set}
use Rattle.meta_file_types.proofs.types.Types.add_type.Given as goal

-- the same items
abbrev pub ghost-set_of : goal.ghost-set_of
ghost-set_of g a = g.said

-- after the set
abbrev pub ghost-declare_root : goal.ghost-declare_root
ghost-declare_root g a = after_set g.said a.item.now.set
