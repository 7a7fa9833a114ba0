use Rattle.std.proofs.Common.{◌<◌, ◌≤◌, ◌+◌, ◌++◌, ◌∙◌, IsTrue, length, ap, sym, drop, add-one, arith}
use Rattle.std.specs.List.{flat_map}
use Rattle.meta_table_reader.specs.Spans.{is_line, after_line, after_lines}
use Rattle.meta_table_reader.proofs.Ends.{line_some, one_line_more, lines_passed}
use Rattle.meta_table_reader.proofs.ItemsRead.{one_within, front, only_rest_left, few_items}
use Rattle.std.proofs.lemmas.List.Elements.{All-weaker}
use Rattle.meta_table_reader.proofs.cursor.Cursor.skip_lines.Goals as goal

pub loop-preserved : goal.loop-preserved
loop-preserved c = record {
  item = λ lines rest shown count e.
      let i = c.loop.counter in
      let left = c.loop.invariant.item lines rest shown count e in
      let within : i < length lines = omega (arith, c.loop-test.true, c.min-end.ensures) in
      let (line, at, is) = one_within (λ line. IsTrue (is_line line)) lines i shown within in
      c.skip_line.ensures.item line (flat_map (λ line. line) (drop (i + 1) lines) ++ rest) is
      (front (λ line. line) lines rest c.loop.self i line at left);
  left = c.skip_line.ensures.left ∙ ap after_line c.loop.invariant.left ∙ sym (one_line_more c.loop.counter _)
      ∙ ap (λ n. after_lines n c.args.self.now) (sym (add-one c.loop.counter));
}

pub returns-clause-item : goal.returns-clause-item
returns-clause-item c = λ lines rest shown count e.
    let few = few_items (λ line. line) lines (All-weaker (λ line. IsTrue (is_line line)) (λ line. 1 ≤ length line) line_some lines shown)
    rest in
    let past : length lines ≤ c.loop.counter = omega (arith, few, ap length e, c.loop-test.false, c.min-end.ensures, c.len.ensures) in
    only_rest_left (λ line. line) lines rest c.loop.counter c.loop.self past (c.loop.invariant.item lines rest shown count e)

pub returns-clause-left : goal.returns-clause-left
returns-clause-left c =
    c.loop.invariant.left
    ∙ lines_passed c.args.count c.loop.counter c.args.self.now (omega (arith, c.min-end.ensures))
    (λ l. omega (arith, l, c.loop-test.false, c.min-end.ensures, c.len.ensures))
