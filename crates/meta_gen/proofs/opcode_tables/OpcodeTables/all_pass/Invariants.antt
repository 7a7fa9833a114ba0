use Rattle.std.proofs.Common.{◌≡◌, ℕ, ◌+◌, ◌<◌, slice_get, Some}
use Rattle.meta_inst.specs.Which.{both}
use Rattle.meta_inst.specs.Tables.{PassesAt}
use Rattle.meta_gen.proofs.opcode_tables.OpcodeTables.all_pass.Given as goal

abbrev pub invariant-loop-k : goal.invariant-loop-k
invariant-loop-k l = (j n : ℕ) → j < l.k → slice_get l.numbers j ≡ Some n
    → PassesAt l.self (both l.controls.ctrl l.controls.second) (l.offset + j) n
