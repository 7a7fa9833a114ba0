use Rattle.std.proofs.Common.{◌≡◌, ◌∙◌, ◌+◌, ◌∷◌, drop, ap, length, arith}
use Rattle.std.specs.Prelude.{◌&&◌}
use Rattle.std.proofs.lemmas.List.{drop_more}
use Rattle.meta_file_syntax.specs.Squeezed.{is_comma, ends_first}
use Rattle.meta_file_syntax.proofs.Kept.{tokens_go_on, lines_go_on, as_many}
use Rattle.meta_file_syntax.proofs.squeezing.squeeze.Goals as goal

pub loop-line-preserved : goal.loop-line-preserved
loop-line-preserved c =
    let l = c.loop-line in
    let i = l.line-index in
    let lines = c.deref-line-items.result.now in
    let token = c.in-Some.token in
    let left = c.pop_front.new.self.items in
    let rest : l.rest.items ≡ token ∷ left = c.in-Some.ensures.items in
    let tokens = c.in_ok-keep.ensures.tokens in
    let numbers = c.in_ok-keep.ensures.lines in
    record {
      tokens = tokens_go_on l.kept.tokens.items _ token l.rest.items left _ tokens rest l.invariant.tokens;
      lines = lines_go_on l.kept.lines.items _ token _ l.rest.items left (drop i lines) (drop (i + 1) lines) _ numbers rest
          (drop_more lines i 0 c.loop-line-test.true) l.invariant.lines;
      left = omega (arith, ap length rest);
      each = as_many (is_comma token && ends_first left) _ token _ _ _ _ numbers tokens l.invariant.each;
      same = l.invariant.same;
      last = c.keep.ensures.last ∙ l.invariant.last;
    }
