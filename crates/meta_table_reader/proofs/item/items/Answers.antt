use Rattle.std.proofs.Common.{◌<◌, ◌≤◌, ◌+◌, ◌++◌, length, get_or, ap, drop, arith}
use Rattle.std.specs.List.{flat_map}
use Rattle.meta_table_reader.proofs.ItemsRead.{one_within, front, one_more_read, all_read, few_items}
use Rattle.meta_table_reader.proofs.item.items.Goals as goal

pub loop-init : goal.loop-init
loop-init g c = λ items rest shown count e. record { got = c.new-items.ensures.items; left = e }

pub loop-preserved : goal.loop-preserved
loop-preserved g c = λ items rest shown count e.
    let text = g.T.Item.text in
    let i = c.loop.counter in
    let read = c.loop.invariant items rest shown count e in
    let within : i < length items = omega (arith, c.loop-test.true, c.min-end.ensures) in
    let (item, at, is_shown) = one_within g.T.Item.IsShown items i shown within in
    let (same, left) = c.in_ok-read.ensures item (flat_map text (drop (i + 1) items) ++ rest) is_shown
    (front text items rest c.loop.cursor i item at read.left) in
    one_more_read text items rest i item c.in_ok-read.field-0 c.loop.items.items c.push.new.self.items c.loop.cursor
    c.read.new.cursor at read c.in_ok-push.ensures.items same left

pub returns : goal.returns
returns g c = λ items rest shown count e.
    let few = few_items g.T.Item.text items (λ k d within. g.met.T.Item.some (get_or items k d)) rest in
    let past : length items ≤ c.loop.counter = omega (arith, few, ap length e, c.loop-test.false, c.min-end.ensures, c.len.ensures) in
    all_read g.T.Item.text items rest c.loop.counter c.loop.items.items c.loop.cursor past (c.loop.invariant items rest shown count e)
