use Rattle.std.proofs.Common.{◌≡◌, map, take}
use Rattle.meta_verify.specs.declared.statement.TypedNumber.{TypedNumber}
use Rattle.meta_verify.proofs.mistake.put_numbers.Given as goal

-- the numbers so far
abbrev pub invariant-loop-r : goal.invariant-loop-r
invariant-loop-r l = record {
  so_far : l.numbers.items ≡ map (λ (r : TypedNumber). r.number) (take l.r-index l.results);
}
