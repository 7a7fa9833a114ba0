use Rattle.std.proofs.Common.{◌≡◌, length, map}
use Rattle.meta_text.specs.Filled.{text_named}
use Rattle.meta_text.proofs.template.text_named.Given as goal

abbrev pub invariant-loop-holes : goal.invariant-loop-holes
invariant-loop-holes l =
    text_named (map (λ h. h.now) l.holes) (map (λ t. t.now) l.texts) l.name
    ≡ text_named (map (λ h. h.now) l.initial.holes) (map (λ t. t.now) l.initial.texts) l.name

abbrev pub decreases-loop-holes : goal.decreases-loop-holes
decreases-loop-holes l = length l.holes
