use Rattle.std.proofs.Common.{◌≡◌, take}
use Rattle.std.specs.List.{flat_map}
use Rattle.meta_settings.specs.TurnedOn.{firsts, meant_by}
use Rattle.meta_settings.proofs.preset.turned_on.Given as goal

-- what the names so far stand for is named
abbrev pub invariant-loop-arg : goal.invariant-loop-arg
invariant-loop-arg l = l.named ≡ firsts (flat_map (meant_by l.earlier) (take l.arg-index l.args))
