use Rattle.std.proofs.Common.{◌+◌, ◌/◌, ◌<◌, ◌≤◌, [], ◌∷◌, ◌++◌, length, drop, sym, ap, ◌∙◌, arith}
use Rattle.std.proofs.lemmas.List.{take_all}
use Rattle.meta_table_text.specs.GroupItems.{bytes_text}
use Rattle.meta_table_reader.proofs.ItemsRead.{one_within}
use Rattle.meta_table_reader.specs.ShownGroup.{IsByte}
use Rattle.meta_table_reader.proofs.ShownBytes.{comma_after, without_comma, bytes_count}
use Rattle.meta_table_reader.proofs.groups.bytes.Goals as goal

pub loop-init : goal.loop-init
loop-init c = λ bs all e. (c.new-bytes.ensures.items, c.new-cursor.ensures ∙ e)

pub loop-preserved : goal.loop-preserved
loop-preserved c = λ bs all e.
    let i = c.loop.counter in
    let so_far = c.loop.invariant bs all e in
    let count = ap (λ t. (length t + 2) / 6) e ∙ bytes_count bs in
    let within : i < length bs = omega (arith, c.loop-test.true, count) in
    let (byte, at, small) = one_within IsByte bs i all within in
    let (read, left) = c.hex.ensures.item byte (comma_after (drop (i + 1) bs)) small (so_far.1 ∙ ap bytes_text at.dropped) in (
      c.in_ok-push.ensures.items ∙ (λ k. so_far.0 k ++ read k ∷ []) ∙ sym at.taken,
      c.skip.ensures ∙ ap (drop 2) left ∙ without_comma (drop (i + 1) bs),
    )

pub returns : goal.returns
returns c = λ bs all e.
    let i = c.loop.counter in
    let so_far = c.loop.invariant bs all e in
    let count = ap (λ t. (length t + 2) / 6) e ∙ bytes_count bs in
    let past : length bs ≤ i = omega (arith, c.loop-test.false, count) in
    so_far.0 ∙ take_all i bs past
