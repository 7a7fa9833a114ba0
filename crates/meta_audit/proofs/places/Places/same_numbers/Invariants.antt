use Rattle.std.proofs.Common.{◌≡◌, ◌↔◌, ◌<◌, ◌≤◌, ℕ}
use Rattle.meta_inst.specs.Which.{both}
use Rattle.meta_inst.specs.Tables.{PassesAt}
use Rattle.meta_audit.proofs.places.Places.same_numbers.Given as goal

-- so far the same numbers pass
abbrev pub invariant-loop-n : goal.invariant-loop-n
invariant-loop-n l = (m : ℕ) → 112 ≤ m → m < l.n
    → (PassesAt l.self.own.now (both l.ctrl l.second) l.self.at m ↔ PassesAt l.self.other.now (both l.ctrl l.second) l.self.other_at m)
