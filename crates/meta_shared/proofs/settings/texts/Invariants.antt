use Rattle.std.proofs.Common.{◌≡◌, take}
use Rattle.meta_shared.specs.Settings.{texts_of}
use Rattle.meta_shared.proofs.settings.texts.Given as goal

abbrev pub invariant-loop-value : goal.invariant-loop-value
invariant-loop-value l = l.texts.items ≡ texts_of (take l.value-index l.values)
