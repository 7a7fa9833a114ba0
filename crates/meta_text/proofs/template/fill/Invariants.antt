use Rattle.std.proofs.Common.{◌≡◌, ◌++◌, map, length, string_bytes}
use denote.Text.{Utf8}
use denote.Shadow.{shadow}
use Rattle.meta_text.specs.Filled.{filled}
use Rattle.meta_text.proofs.template.fill.Given as goal

-- what is written, and then what is left to write
abbrev pub invariant-loop-before : goal.invariant-loop-before
invariant-loop-before l =
    shadow (Utf8 l.left)
    × (string_bytes l.out ++ filled l.left (map (λ h. h.now) l.holes) (map (λ t. t.now) l.texts)
    ≡ string_bytes l.initial.out ++ filled l.template (map (λ h. h.now) l.holes) (map (λ t. t.now) l.texts))

abbrev pub decreases-loop-before : goal.decreases-loop-before
decreases-loop-before l = length l.left
