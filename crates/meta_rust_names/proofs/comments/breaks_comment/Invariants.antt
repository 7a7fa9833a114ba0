use Rattle.std.proofs.Common.{◌≡◌, drop}
use Rattle.meta_rust_names.specs.Comments.{breaks_comment}
use Rattle.meta_rust_names.proofs.comments.breaks_comment.Given as goal

-- what is told from the place on is told of all
abbrev pub invariant-loop-place : goal.invariant-loop-place
invariant-loop-place l = breaks_comment (drop l.place l.bytes) ≡ breaks_comment l.bytes
