use Rattle.std.proofs.Common.{◌≡◌, ◌<◌, ℕ, slice_get, Some}
use Rattle.meta_inst.specs.Builder.{Builder}
use Rattle.meta_inst.specs.InstructionSet.{FitsBuilder}
use Rattle.meta_build.proofs.declared_set.DeclaredSet.fits.Given as goal

-- the instructions so far are of the registries
abbrev pub invariant-loop-k : goal.invariant-loop-k
invariant-loop-k l = (i : ℕ) (b : Builder) → i < l.k → slice_get l.instructions i ≡ Some b → FitsBuilder l.vars l.formats b
