use Rattle.std.proofs.Common.{◌≡◌, ◌++◌, map}
use Rattle.meta_settings.specs.PresetLayout.{names_turned_on}
use Rattle.meta_file_describe.specs.Wording.{name_for}
use Rattle.meta_file_describe.proofs.settings.args_of.Given as goal

-- the names so far, and those that are left, are all that are turned on
abbrev pub invariant-loop-name : goal.invariant-loop-name
invariant-loop-name l = l.args.items ++ map name_for l.name-iterator ≡ map name_for (names_turned_on l.group l.preset)
