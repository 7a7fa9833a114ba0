use Rattle.std.proofs.Common.{◌≡◌, ◌≤◌, ◌<◌, ◌+◌, ◌*◌, ℕ, List, length}
use Rattle.meta_inst.specs.Builder.{Builder}
use Rattle.meta_inst.specs.Faults.{IsAt}
use Rattle.meta_gen.specs.Entries.{IsHeldAt, AreAdded}
use Rattle.meta_gen.specs.declared.constraint.Constraint.{Constraint}
use Rattle.meta_gen.proofs.entries.entries.Given as goal

-- each of the instructions so far has its entry, which holds it, and its list was added
abbrev pub invariant-loop-k : goal.invariant-loop-k
invariant-loop-k l = record {
  room : length l.constraints ≤ 3 + 14 * l.k;
  count : length l.entries.items ≡ l.k;
  holds : (k : ℕ) (b : Builder) → k < l.k → IsAt l.built.declared.set k b
      → IsHeldAt l.built.declared.set.vars l.built.declared.set.formats l.built.type_sets l.constraints l.entries.items k b;
  added : (lists : List (List Constraint))
      × AreAdded l.built.declared.set.vars l.built.declared.set.formats l.built.declared.set.instructions l.built.type_sets l.constraints
      l.entries.items lists;
}
