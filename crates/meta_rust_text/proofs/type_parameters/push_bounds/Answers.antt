use Rattle.std.proofs.Common.{◌∙◌, map, take, string_bytes, arith}
use Rattle.meta_rust_text.specs.MethodArguments.{bound_of}
use Rattle.meta_rust_text.proofs.WithBefore.{one_after, all_after}
use Rattle.meta_rust_text.proofs.Numbered.{next_counted, one_more, few}
use Rattle.meta_rust_text.proofs.type_parameters.push_bounds.Goals as goal

pub next_number-requires : goal.next_number-requires
next_number-requires c =
    omega (arith, few c.args.operands.now c.loop-place.place c.loop-place.numbering c.loop-place.invariant.counts, c.loop-place-test.true)

pub past-numbering-requires : goal.past-numbering-requires
past-numbering-requires c =
    omega (arith, few c.args.operands.now c.loop-place.place c.loop-place.numbering c.loop-place.invariant.counts, c.loop-place-test.true)

pub loop-place-preserved : goal.loop-place-preserved
loop-place-preserved c =
    let xs = c.args.operands.now in
    let k = c.loop-place.place in
    let o = c.index-operands-place.result in
    let number = c.next_number.ensures ∙ next_counted c.loop-place.numbering (take k xs) c.loop-place.invariant.counts in
    record {
      added = one_after bound_of xs k o (map string_bytes c.loop-place.bounds.items) (map string_bytes c.push_bound.new.bounds.items) _
          c.loop-place-test.true c.index-operands-place.is (c.in_ok-push_bound.ensures (take k xs) number) c.loop-place.invariant.added;
      counts = one_more xs k o c.loop-place.numbering c.past-numbering.result c.loop-place-test.true c.index-operands-place.is
          c.past-numbering.ensures.converted c.past-numbering.ensures.has_block c.loop-place.invariant.counts;
    }

pub returns : goal.returns
returns c = all_after bound_of c.args.operands.now c.loop-place.place
    (map string_bytes c.loop-place.bounds.items) _ c.loop-place-test.false c.loop-place.invariant.added
