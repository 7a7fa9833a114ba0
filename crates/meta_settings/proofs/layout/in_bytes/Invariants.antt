use Rattle.std.proofs.Common.{◌≡◌, take}
use Rattle.meta_settings.specs.GroupDeclaration.{others_among}
use Rattle.meta_settings.specs.LaidOut.{in_bytes}
use Rattle.meta_settings.proofs.layout.in_bytes.Given as goal

-- those of the settings so far are placed
abbrev pub invariant-loop-setting : goal.invariant-loop-setting
invariant-loop-setting l = l.placed.items ≡ in_bytes 0 (others_among (take l.setting-index l.settings))
