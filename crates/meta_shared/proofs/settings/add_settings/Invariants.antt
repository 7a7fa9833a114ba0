use Rattle.std.proofs.Common.{◌≡◌, map, take}
use Rattle.meta_shared.specs.Settings.{setting_of, with_settings}
use Rattle.meta_shared.proofs.settings.add_settings.Given as goal

-- the settings of the rows so far
abbrev pub invariant-loop-row : goal.invariant-loop-row
invariant-loop-row l = l.group ≡ with_settings l.initial.group (map setting_of (take l.row-index l.rows))
