use Rattle.std.proofs.Common.{◌≡◌, ◌++◌, true, drop}
use Rattle.meta_file_types.specs.Texts.{are_texts}
use Rattle.meta_file_declare.specs.Texts.{names_in}
use Rattle.meta_file_declare.proofs.texts.name_texts.Given as goal

-- the texts so far, and the names that are left, which are UTF-8
abbrev pub invariant-loop-name : goal.invariant-loop-name
invariant-loop-name l = record {
  rest : l.texts.items ++ names_in (drop l.name-index l.names) ≡ names_in l.names;
  texts : are_texts (names_in (drop l.name-index l.names)) ≡ true;
}
