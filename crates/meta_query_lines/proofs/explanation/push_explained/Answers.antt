use Rattle.std.proofs.Common.{◌≡◌, string_bytes}
use Rattle.meta_lines.specs.Lines.{lines_of}
use Rattle.meta_query_lines.specs.Explanation.{IsExplanation}
use Rattle.meta_query_lines.proofs.TextLemmas.{all_left, one_less_left, none_left}
use Rattle.meta_query_lines.specs.Told.{told_by}
use Rattle.meta_query_lines.proofs.explanation.push_explained.Goals as goal

pub loop-line-init : goal.loop-line-init
loop-line-init c =
    let all : c.into_iter-line-iterator.result ≡ lines_of c.args.input.now = cc in
    all_left (IsExplanation c.args.tables.now (told_by c.args.instructions))
    (lines_of c.args.input.now) (string_bytes c.args.out.now) c.into_iter-line-iterator.result all

pub loop-line-preserved : goal.loop-line-preserved
loop-line-preserved c =
    one_less_left (IsExplanation c.args.tables.now (told_by c.args.instructions))
    (lines_of c.args.input.now) (string_bytes c.args.out.now) c.loop-line.line-iterator c.next.new.self c.in-Some.line.now
    (string_bytes c.loop-line.out) (string_bytes c.push_line.new.out) c.in-Some.ensures.steps c.in_ok-push_line.ensures
    c.loop-line.invariant

pub returns : goal.returns
returns c =
    none_left (IsExplanation c.args.tables.now (told_by c.args.instructions))
    (lines_of c.args.input.now) (string_bytes c.args.out.now) c.loop-line.line-iterator (string_bytes c.loop-line.out)
    c.in-None.ensures.steps.0 c.loop-line.invariant
