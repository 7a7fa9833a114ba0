use Rattle.std.proofs.Common.{◌≡◌, ◌++◌, take, codes}
use Rattle.std.specs.List.{filter, join_by}
use Rattle.std.specs.Fmt.{decimal, HasWritten, IsPlainFormatter}
use Rattle.meta_typevar.specs.Image.{has_some}
use Rattle.meta_typevar.specs.MaskSets.{holds}
use Rattle.meta_typevar.proofs.part_numbers.NumbersDisplay.fmt.Given as goal

-- what is held before this place was written
abbrev pub invariant-loop-n : goal.invariant-loop-n
invariant-loop-n g l =
    (l.follows ≡ has_some (filter (holds l.self-inside.mask) (take l.n-index l.n-items)))
    × (IsPlainFormatter l.fn.f → HasWritten g.W.Write.write_str_gives l.fn.f
    (codes "{" ++ join_by decimal (codes ", ") (filter (holds l.self-inside.mask) (take l.n-index l.n-items))) l.f)
