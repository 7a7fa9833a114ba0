use Rattle.std.proofs.Common.{sym, ◌∙◌, arith}
use Rattle.meta_rust_names.proofs.Breaks.{breaks_after}
use Rattle.meta_rust_names.proofs.comments.breaks_comment.Goals as goal

pub loop-place-preserved : goal.loop-place-preserved
loop-place-preserved c =
    breaks_after c.args.bytes.now c.split_at.result.1.now c.loop-place.place (omega (arith, c.loop-place-test.true))
    c.split_at.ensures.back (sym c.begins_break.ensures ∙ c.if-begins_break.false) c.loop-place.invariant
