use Rattle.std.proofs.Common.{◌≡◌, ◌++◌, [], map, take, drop, string_bytes}
use Rattle.meta_rust_text.specs.MethodArguments.{each_with_before, bound_of}
use Rattle.meta_rust_text.proofs.Numbered.{Counts}
use Rattle.meta_rust_text.proofs.type_parameters.push_bounds.Given as goal

-- what is added, and then what is left to add; and those before are counted
abbrev pub invariant-loop-place : goal.invariant-loop-place
invariant-loop-place l = record {
  added : map string_bytes l.bounds.items ++ each_with_before bound_of (take l.place l.operands) (drop l.place l.operands)
      ≡ map string_bytes l.initial.bounds.items ++ each_with_before bound_of [] l.operands;
  counts : Counts l.numbering (take l.place l.operands);
}
