use Rattle.std.proofs.Common.{◌∙◌, take, string_bytes, arith}
use Rattle.meta_rust_text.specs.MethodArguments.{operand_arguments}
use Rattle.meta_rust_text.proofs.WithBefore.{one_after, all_after}
use Rattle.meta_rust_text.proofs.Numbered.{next_counted, one_more, few}
use Rattle.meta_rust_text.proofs.method_arguments.push_operands.Goals as goal

pub next_number-requires : goal.next_number-requires
next_number-requires c =
    omega (arith, few c.args.operands.now c.loop-place.place c.loop-place.numbering c.loop-place.invariant.counts, c.loop-place-test.true)

pub past-numbering-requires : goal.past-numbering-requires
past-numbering-requires c =
    omega (arith, few c.args.operands.now c.loop-place.place c.loop-place.numbering c.loop-place.invariant.counts, c.loop-place-test.true)

pub loop-place-preserved : goal.loop-place-preserved
loop-place-preserved c =
    let xs = c.args.operands.now in
    let k = c.loop-place.place in
    let o = c.index-operands-place.result in
    let number = c.next_number.ensures ∙ next_counted c.loop-place.numbering (take k xs) c.loop-place.invariant.counts in
    record {
      written = one_after operand_arguments xs k o (string_bytes c.loop-place.out) (string_bytes c.push_operand.new.out) _
          c.loop-place-test.true c.index-operands-place.is (c.in_ok-push_operand.ensures (take k xs) number) c.loop-place.invariant.written;
      counts = one_more xs k o c.loop-place.numbering c.past-numbering.result c.loop-place-test.true c.index-operands-place.is
          c.past-numbering.ensures.converted c.past-numbering.ensures.has_block c.loop-place.invariant.counts;
    }

pub returns : goal.returns
returns c = all_after operand_arguments c.args.operands.now c.loop-place.place
    (string_bytes c.loop-place.out) _ c.loop-place-test.false c.loop-place.invariant.written
