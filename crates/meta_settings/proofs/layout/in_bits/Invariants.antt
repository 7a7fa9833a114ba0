use Rattle.std.proofs.Common.{◌≡◌, take}
use Rattle.meta_settings.specs.GroupDeclaration.{booleans_among}
use Rattle.meta_settings.specs.LaidOut.{in_bits}
use Rattle.meta_settings.proofs.layout.in_bits.Given as goal

-- those of the settings so far are placed
abbrev pub invariant-loop-setting : goal.invariant-loop-setting
invariant-loop-setting l = l.placed.items ≡ in_bits l.start 0 (booleans_among (take l.setting-index l.settings))
