use Rattle.std.proofs.Common.{◌≡◌, ◌++◌, take, string_bytes}
use Rattle.std.specs.List.{flat_map}
use Rattle.meta_explain.specs.MaskTexts.{power_text}
use Rattle.meta_explain.proofs.sets.push_powers.Given as goal

-- what the powers so far have was added
abbrev pub invariant-loop-number : goal.invariant-loop-number
invariant-loop-number l = string_bytes l.out ≡ string_bytes l.initial.out ++ flat_map (power_text l.mask) (take l.number-index l.powers)
