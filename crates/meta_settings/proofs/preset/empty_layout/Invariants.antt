use Rattle.std.proofs.Common.{ℕ, []}
use Rattle.meta_settings.specs.PresetLayout.{IsLayoutOn}
use Rattle.meta_settings.proofs.preset.empty_layout.Given as goal

-- nothing is on in the bytes so far
abbrev pub invariant-loop : goal.invariant-loop
invariant-loop l = (start : ℕ) → IsLayoutOn start l.counter [] l.layout.items
