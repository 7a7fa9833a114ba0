use Rattle.std.proofs.Common.{◌≡◌, take}
use Rattle.meta_settings.proofs.value_names.ValueNames.copy.Given as goal

-- the texts so far are copied
abbrev pub invariant-loop-text : goal.invariant-loop-text
invariant-loop-text l = l.names.items ≡ take l.text-index l.texts
