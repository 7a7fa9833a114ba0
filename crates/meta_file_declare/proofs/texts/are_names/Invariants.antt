use Rattle.std.proofs.Common.{◌≡◌, drop}
use Rattle.meta_file_types.specs.Texts.{are_texts}
use Rattle.meta_file_declare.specs.Texts.{names_in}
use Rattle.meta_file_declare.proofs.texts.are_names.Given as goal

-- what is left decides
abbrev pub invariant-loop-name : goal.invariant-loop-name
invariant-loop-name l = are_texts (names_in (drop l.name-index l.names)) ≡ are_texts (names_in l.names)
