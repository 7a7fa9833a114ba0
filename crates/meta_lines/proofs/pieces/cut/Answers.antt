use Rattle.std.proofs.Common.{◌<◌, length, sym, arith}
use Rattle.meta_lines.proofs.PieceLemmas.{slice_split_found, no_place, ends_within}
use Rattle.meta_lines.proofs.pieces.cut.Goals as goal

pub returns-then-end-len : goal.returns-then-end-len
returns-then-end-len c = no_place c.args.byte c.args.text.now c.end_of-end.result c.end_of-end.ensures (omega (arith, c.if-end-len.true))

pub returns : goal.returns
returns c = slice_split_found _ _ _ (ends_within c.args.byte c.args.text.now c.end_of-end.result c.end_of-end.ensures
    (λ e. c.if-end-len.false (omega (arith, e)))) (sym c.end_of-end.ensures)

pub overflow_add-result : goal.overflow_add-result
overflow_add-result c =
    let inside : c.end_of-end.result < length c.args.text.now =
    ends_within c.args.byte c.args.text.now c.end_of-end.result c.end_of-end.ensures (λ e. c.if-end-len.false (omega (arith, e))) in
    omega (arith, inside)

pub slice_bounds-result-count : goal.slice_bounds-result-count
slice_bounds-result-count c =
    let inside : c.end_of-end.result < length c.args.text.now =
    ends_within c.args.byte c.args.text.now c.end_of-end.result c.end_of-end.ensures (λ e. c.if-end-len.false (omega (arith, e))) in
    omega (arith, inside)

pub slice_bounds-result-start : goal.slice_bounds-result-start
slice_bounds-result-start c =
    let inside : c.end_of-end.result < length c.args.text.now =
    ends_within c.args.byte c.args.text.now c.end_of-end.result c.end_of-end.ensures (λ e. c.if-end-len.false (omega (arith, e))) in
    omega (arith, inside)
