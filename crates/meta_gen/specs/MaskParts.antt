-- One of the four masks of a set of types.
use Rattle.std.specs.Prelude.{◌≡◌, ℕ, List, sum}
use Rattle.std.specs.List.{filter}
use Rattle.meta_typevar.specs.MaskSets.{holds}

-- the mask is the sum of some of these powers of two
abbrev pub IsMaskOf : List ℕ → ℕ → Type 0
IsMaskOf all mask = mask ≡ sum (filter (holds mask) all)
