use Rattle.std.proofs.Common.{◌<◌, length, string_bytes, arith}
use Rattle.meta_table_text.specs.GroupText.{group_text}
use Rattle.meta_table_text.specs.TableText.{table_text}
use Rattle.meta_table_text.proofs.Places.{next_text}
use Rattle.meta_table_text.proofs.whole_text.table_text.Goals as goal

pub loop-group-preserved : goal.loop-group-preserved
loop-group-preserved c =
    let groups = c.args.tables.now.groups in
    let count = c.group_count-group-end.ensures in
    let below = c.loop-group-test.true in
    let inside : c.loop-group.group < length groups = omega arith in
    next_text group_text groups c.loop-group.group (table_text c.args.version c.args.tables.now)
    (string_bytes c.loop-group.out) (string_bytes c.push_group.new.out) inside
    (λ g at. c.in_ok-push_group.ensures.text g at) c.loop-group.invariant
