use Rattle.std.proofs.Common.{ℕ, ◌+◌, ◌<◌, ◌≤◌, [], ◌∷◌, ◌++◌, length, get_or, take, drop, append_assoc, append-nil, codes, sym, ap, ◌∙◌, arith}
use Rattle.std.specs.List.{flat_map}
use Rattle.std.proofs.lemmas.List.{take_all}
use Rattle.meta_table_text.specs.GroupItems.{binary_text, pair_text}
use Rattle.meta_table_reader.proofs.ItemsRead.{one_within, front, only_rest_left, few_items}
use Rattle.meta_table_reader.specs.ShownGroup.{IsByte}
use Rattle.meta_table_reader.proofs.group_lists.push_masks.Goals as goal

pair_some : (mask : ℕ) → 1 ≤ length (pair_text mask)
unfolding pair_text
pair_some mask = omega arith

pub loop-init : goal.loop-init
loop-init c = λ ms rest all count e. (sym (append-nil c.args.masks.now.items), e)

pub loop-preserved : goal.loop-preserved
unfolding pair_text binary_text
loop-preserved c = λ ms rest all count e.
    let i = c.loop.counter in
    let so_far = c.loop.invariant ms rest all count e in
    let within : i < length ms = omega (arith, c.loop-test.true, c.min-end.ensures, count) in
    let (mask, at, small) = one_within IsByte ms i all within in
    let more = flat_map pair_text (drop (i + 1) ms) ++ rest in
    let (read, a) = c.binary-mask.ensures.item mask (codes ", 0b" ++ (binary_text mask ++ (codes "),\n" ++ more))) small
    (front pair_text ms rest c.loop.cursor i mask at so_far.1) in
    let (again, b) = c.binary.ensures.item mask (codes "),\n" ++ more) small a in
    let before = c.args.masks.now.items in (
      c.in_ok-push.ensures.items ∙ (λ k. so_far.0 k ++ read k ∷ []) ∙ append_assoc before (take i ms) (mask ∷ [])
          ∙ ap (λ w. before ++ w) (sym at.taken),
      c.pass.ensures.item more b,
    )

pub returns : goal.returns
returns c = λ ms rest all count e.
    let i = c.loop.counter in
    let so_far = c.loop.invariant ms rest all count e in
    let few = few_items pair_text ms (λ k d within. pair_some (get_or ms k d)) rest in
    let past : length ms ≤ i = omega (arith, few, ap length e, c.loop-test.false, c.min-end.ensures, c.len.ensures, count) in
    (so_far.0 ∙ ap (λ w. c.args.masks.now.items ++ w) (take_all i ms past), only_rest_left pair_text ms rest i c.loop.cursor past so_far.1)
