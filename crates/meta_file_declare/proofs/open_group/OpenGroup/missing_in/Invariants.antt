use Rattle.std.proofs.Common.{◌≡◌, drop}
use Rattle.meta_file_declare.specs.OpenGroup.{known_of}
use Rattle.meta_file_declare.specs.Wrong.{missing_in}
use Rattle.meta_file_declare.proofs.open_group.OpenGroup.missing_in.Given as goal

-- the first name that is missing is among those that are left
abbrev pub invariant-loop-name : goal.invariant-loop-name
invariant-loop-name l =
    missing_in (known_of l.self.builder) (drop l.name-index l.names) ≡ missing_in (known_of l.self.builder) l.names
