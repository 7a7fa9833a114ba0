use Rattle.std.proofs.Common.{None}
use Rattle.std.proofs.lemmas.Option.{slice_get-get_or}
use Rattle.meta_inst.specs.Controls.{which_of}
use Rattle.meta_explain.proofs.Telling.{told_by}
use Rattle.meta_explain.proofs.searching.told_at.Goals as goal

pub returns-then-is_control_at : goal.returns-then-is_control_at
returns-then-is_control_at c =
    told_by c.args.tables.now (which_of c.args.which) c.args.offset c.args.asked.now c.loop-k.k _
    (slice_get-get_or c.args.asked.now c.loop-k.k None c.loop-k-test.true) (c.is_control_at.ensures c.if-is_control_at.true)
