use Rattle.std.proofs.Common.{◌≡◌, ◌++◌, drop}
use Rattle.std.specs.List.{filter_map}
use Rattle.meta_file_declare.specs.Named.{meant}
use Rattle.meta_file_declare.specs.OpenGroup.{known_of}
use Rattle.meta_file_declare.specs.Texts.{names_in}
use Rattle.meta_file_declare.proofs.open_group.OpenGroup.all_meant.Given as goal

-- what was found so far, and what is left
abbrev pub invariant-loop-name : goal.invariant-loop-name
invariant-loop-name l =
    l.meant.items ++ filter_map (meant (known_of l.self.builder)) (names_in (drop l.name-index l.names))
    ≡ filter_map (meant (known_of l.self.builder)) (names_in l.names)
