use Rattle.std.proofs.Common.{◌≡◌, ◌<◌, ℕ, slice_get, Some}
use Rattle.meta_setting_tables.specs.declared.descriptor.Descriptor.{Descriptor}
use Rattle.meta_setting_tables.specs.WellFormed.{HasItsValues}
use Rattle.meta_setting_tables.proofs.entries.have_their_values.Given as goal

-- the entries so far have their values
abbrev pub invariant-loop-entry : goal.invariant-loop-entry
invariant-loop-entry l = (k : ℕ) (d : Descriptor) → k < l.entry-index → slice_get l.entries k ≡ Some d → HasItsValues l.enumerators d.detail
