use Rattle.std.proofs.Common.{◌≡◌, ◌<◌, ℕ, slice_get, Some}
use Rattle.meta_setting_tables.specs.declared.descriptor.Descriptor.{Descriptor}
use Rattle.meta_setting_tables.specs.WellFormed.{IsPlaced}
use Rattle.meta_setting_tables.proofs.entries.are_placed.Given as goal

-- the entries so far stand in their places
abbrev pub invariant-loop-place : goal.invariant-loop-place
invariant-loop-place l = (k : ℕ) (d : Descriptor) → k < l.place → slice_get l.entries k ≡ Some d
    → IsPlaced l.shape.own_bytes l.shape.booleans l.shape.bytes k d.offset d.detail
