use Rattle.std.proofs.Common.{◌<◌, ◌≤◌, ℕ}
use Rattle.meta_inst.specs.Tables.{PassesAt}
use Rattle.meta_explain.specs.Parts.{numbers_of}
use Rattle.meta_explain.proofs.types.has_type_at.Given as goal

-- none of the numbers so far passes
abbrev pub invariant-loop-number : goal.invariant-loop-number
invariant-loop-number l = (n : ℕ) → 116 ≤ n → n < l.number → PassesAt l.tables (numbers_of l.controls) l.place n → ⊥
