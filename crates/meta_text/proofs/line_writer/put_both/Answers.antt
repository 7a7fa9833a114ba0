use Rattle.meta_text.proofs.Writing.{starts, goes_on, stops, ends}
use Rattle.meta_text.proofs.line_writer.put_both.Goals as goal

pub returns-in_err-put : goal.returns-in_err-put
returns-in_err-put g c = stops _ c.from_residual.ensures.1 (starts _ _ _ _) c.in_err-put.ensures

pub returns : goal.returns
returns g c = ends (goes_on (starts _ _ _ _) c.in_ok-put.ensures) c.put-2.ensures
