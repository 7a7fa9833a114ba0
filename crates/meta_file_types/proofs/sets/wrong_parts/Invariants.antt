use Rattle.std.proofs.Common.{◌≡◌, [], take, drop}
use Rattle.meta_file_types.specs.Sets.{wrong_parts}
use Rattle.meta_file_types.proofs.sets.wrong_parts.Given as goal

-- what is left decides, after those that are right
abbrev pub invariant-loop-place : goal.invariant-loop-place
invariant-loop-place l = wrong_parts (take l.place l.parts) (drop l.place l.parts) ≡ wrong_parts [] l.parts
