use Rattle.std.proofs.Common.{◌≡◌, ◌<◌, ◌≤◌, ℕ, Some}
use Rattle.meta_inst.specs.Tables.{ControlNumberFits}
use Rattle.meta_inst.specs.Controls.{which_of}
use Rattle.meta_audit.specs.Comparison.{SameNumbers, paired}
use Rattle.meta_audit.proofs.places.Places.same_under_each.Given as goal

-- so far the same numbers pass for each number that fits
abbrev pub invariant-loop-n : goal.invariant-loop-n
invariant-loop-n l = (m : ℕ) → 112 ≤ m → m < l.n → ControlNumberFits l.self.own.now l.offset (Some m)
    → SameNumbers l.self.own.now l.self.other.now (paired (which_of l.which) (Some m) l.beside) l.self.at l.self.other_at
