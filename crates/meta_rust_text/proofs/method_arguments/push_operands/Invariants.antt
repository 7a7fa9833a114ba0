use Rattle.std.proofs.Common.{◌≡◌, ◌++◌, [], take, drop, string_bytes}
use Rattle.meta_rust_text.specs.MethodArguments.{each_with_before, operand_arguments}
use Rattle.meta_rust_text.proofs.Numbered.{Counts}
use Rattle.meta_rust_text.proofs.method_arguments.push_operands.Given as goal

-- what is written, and then what is left to write; and those before are counted
abbrev pub invariant-loop-place : goal.invariant-loop-place
invariant-loop-place l = record {
  written : string_bytes l.out ++ each_with_before operand_arguments (take l.place l.operands) (drop l.place l.operands)
      ≡ string_bytes l.initial.out ++ each_with_before operand_arguments [] l.operands;
  counts : Counts l.numbering (take l.place l.operands);
}
