use Rattle.std.proofs.Common.{◌≡◌, ℕ, length, take, []}
use Rattle.meta_settings.specs.PresetLayout.{IsLayoutOn}
use Rattle.meta_settings.proofs.preset.turn_on_all.Given as goal

-- the booleans so far are on
abbrev pub invariant-loop-number : goal.invariant-loop-number
invariant-loop-number l = record {
  size : length l.layout ≡ length l.initial.layout;
  so_far : (size : ℕ) → IsLayoutOn l.start size [] l.initial.layout → IsLayoutOn l.start size (take l.number-index l.numbers) l.layout;
}
