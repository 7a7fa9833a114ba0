use Rattle.std.proofs.Common.{[], ◌++◌}
use Rattle.meta_text.proofs.LineParts.{indented-append}
use Rattle.meta_text.proofs.Writing.{starts, goes_on, stops, ends, left_as}
use Rattle.meta_text.proofs.line_writer.put_line.Goals as goal

pub returns-in_err-put_level : goal.returns-in_err-put_level
returns-in_err-put_level g c = stops _ c.from_residual.ensures.1
    (left_as (indented-append c.args.level [] (c.args.text.now ++ c.args.end.now)) (starts _ _ _ _)) c.in_err-put_level.ensures

pub returns : goal.returns
returns g c = ends (goes_on (left_as (indented-append c.args.level [] (c.args.text.now ++ c.args.end.now))
    (starts _ _ _ _)) c.in_ok-put_level.ensures) c.put_both.ensures
