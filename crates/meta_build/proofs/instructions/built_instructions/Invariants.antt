use Rattle.std.proofs.Common.{◌≡◌, ℕ, length, take, slice_get, Some}
use Rattle.meta_inst.specs.Built.{BuiltInstruction}
use Rattle.meta_inst.specs.InstructionFaults.{NameRule}
use Rattle.meta_inst.specs.Faults.{OfInstruction, names_of}
use Rattle.meta_build.specs.Searched.{IsCleanBefore}
use Rattle.meta_build.specs.BuiltInstructions.{IsBuiltAt}
use Rattle.meta_build.proofs.instructions.built_instructions.Given as goal

-- the names are those so far, the instructions so far have no fault, and each of them is built
abbrev pub invariant-loop-place : goal.invariant-loop-place
invariant-loop-place l = record {
  kept : l.names ≡ take l.place (names_of l.set);
  clean : IsCleanBefore l.set (OfInstruction l.place NameRule);
  count : length l.built.items ≡ l.place;
  built : (k : ℕ) (c : BuiltInstruction) → slice_get l.built.items k ≡ Some c → IsBuiltAt l.set k c;
}
