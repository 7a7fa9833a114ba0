use Rattle.std.proofs.Common.{◌≡◌, ℕ, List, ◌++◌, take}
use Rattle.meta_settings.specs.TurnedOn.{firsts}
use Rattle.meta_settings.proofs.first_named.FirstNamed.add_all.Given as goal

-- the numbers so far are named
abbrev pub invariant-loop-number : goal.invariant-loop-number
invariant-loop-number l = (named : List ℕ) → l.initial.self ≡ firsts named → l.self ≡ firsts (named ++ take l.number-index l.numbers)
