use Rattle.std.proofs.Common.{◌≡◌, take, map}
use Rattle.meta_file_describe.specs.Wording.{name_for}
use Rattle.meta_file_describe.proofs.settings.names_of.Given as goal

-- the names so far are those of the texts so far
abbrev pub invariant-loop-text : goal.invariant-loop-text
invariant-loop-text l = l.names.items ≡ map name_for (take l.text-index l.texts)
