use Rattle.std.proofs.Common.{◌∙◌, arith}
use Rattle.meta_text.proofs.LineParts.{blanks_begin}
use Rattle.meta_text.proofs.line_writer.without_blanks.Goals as goal

pub returns-then-bytes-end-ne32 : goal.returns-then-bytes-end-ne32
returns-then-bytes-end-ne32 c =
    let other = c.if-bytes-end-ne32.true in
    c.split_at.ensures.front ∙ blanks_begin c.args.bytes.now c.loop-end.end c.loop-end.invariant.within c.loop-end.invariant.blanks
    (λ some is. omega (arith, other, is))

pub returns : goal.returns
returns c =
    let all = c.loop-end-test.false in
    blanks_begin c.args.bytes.now 0 (omega arith) (λ k from within. c.loop-end.invariant.blanks k (omega (arith, all)) within)
    (λ some. let bad : ⊥ = omega (arith, some) in absurd bad)
