use Rattle.std.proofs.Common.{◌∙◌, ◌<◌, length, ap, rules}
use Rattle.meta_file_syntax.specs.Named.{doc_text}
use Rattle.meta_file_describe.proofs.Wording.{no_line_so_far, one_line_more, one_byte_more, all_lines, doc_said}
use Rattle.meta_file_describe.proofs.texts.docs_of.Goals.{then-byte-eq10+in_ok-push, else-byte-eq10+in_ok-push-2}
use Rattle.meta_file_describe.proofs.texts.docs_of.Goals as goal

pub loop-byte-init : goal.loop-byte-init
loop-byte-init c = rw (c.new-lines.ensures.items, c.new-line.ensures.items) (no_line_so_far c.args.text.now)

pub loop-byte-preserved : goal.loop-byte-preserved
loop-byte-preserved c =
    let l = c.loop-byte in
    elim c.if-byte-eq10.branch [
      | then-byte-eq10+in_ok-push w ↦
          let e = one_line_more c.args.text.now l.byte-index l.lines.items l.line.items c.loop-byte-test.true w.if-byte-eq10.true
          l.invariant in
          cc (w.in_ok-push.ensures.items, w.of-then-byte-eq10.ensures, w.new-line-then-byte-eq10.ensures.items)
      | else-byte-eq10+in_ok-push-2 w ↦
          let e = one_byte_more c.args.text.now l.byte-index l.lines.items l.line.items c.loop-byte-test.true w.if-byte-eq10.false
          l.invariant in
          cc (w.in_ok-push-2.ensures.items)
    ]

pub returns-clause-says : goal.returns-clause-says
returns-clause-says c =
    let l = c.loop-byte in
    let some : 0 < length c.args.text.now = search rules in
    let e = all_lines c.args.text.now l.byte-index l.lines.items l.line.items some c.loop-byte-test.false l.invariant in
    cc (c.in_ok-push-3.ensures.items, c.of-2.ensures, c.of-3.ensures)

pub returns-clause-tells : goal.returns-clause-tells
returns-clause-tells c = ap doc_text (returns-clause-says c) ∙ doc_said c.args.text.now
