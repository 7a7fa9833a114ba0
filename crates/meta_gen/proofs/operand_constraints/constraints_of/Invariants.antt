use Rattle.std.proofs.Common.{◌≡◌, ◌<◌, ℕ, length, slice_get, Some, IfSome}
use Rattle.meta_gen.specs.Entries.{Describes, IsDescribedAt}
use Rattle.meta_gen.specs.declared.constraint.Constraint.{Constraint}
use Rattle.meta_gen.proofs.operand_constraints.constraints_of.Given as goal

-- one constraint for each of the variables so far, and it describes that variable; the last one is at hand
abbrev pub invariant-loop-place : goal.invariant-loop-place
invariant-loop-place l = record {
  count : length l.constraints.items ≡ l.place;
  described : (k n : ℕ) → k < l.place → slice_get l.variables k ≡ Some n
      → IsDescribedAt l.vars l.controls l.type_sets l.constraints.items k n;
  before : IfSome l.before (λ (p : ℕ × Constraint). Describes l.vars l.controls l.type_sets p.0 p.1);
}
