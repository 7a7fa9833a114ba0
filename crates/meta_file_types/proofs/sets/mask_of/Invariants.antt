use Rattle.std.proofs.Common.{◌≡◌, drop}
use Rattle.meta_file_types.specs.Sets.{numbers_by}
use Rattle.meta_file_types.proofs.sets.mask_of.Given as goal

-- the first part of the dimension is among those that are left
abbrev pub invariant-loop-part : goal.invariant-loop-part
invariant-loop-part l = numbers_by (drop l.part-index l.parts) l.dimension ≡ numbers_by l.parts l.dimension
