use Rattle.meta_build.proofs.ByName.{AreOfFirst}
use Rattle.meta_build.proofs.formats.by_name.Given as goal

-- the formats so far stand by their names
abbrev pub invariant-loop-place : goal.invariant-loop-place
invariant-loop-place l = AreOfFirst l.formats l.used l.place l.ids.entries
