use Rattle.std.proofs.Common.{◌≡◌, ◌<◌, ℕ, length, slice_get, Some}
use Rattle.meta_inst.specs.Builder.{Builder}
use Rattle.meta_gen.specs.TablesOf.{IsFormatName}
use Rattle.meta_gen.proofs.names.copied_formats.Given as goal

-- each of the instructions so far has the name of its format
abbrev pub invariant-loop-k : goal.invariant-loop-k
invariant-loop-k l = record {
  count : length l.names.items ≡ l.k;
  each : (j : ℕ) (b : Builder) → j < l.k → slice_get l.instructions j ≡ Some b → IsFormatName l.formats b l.names.items j;
}
