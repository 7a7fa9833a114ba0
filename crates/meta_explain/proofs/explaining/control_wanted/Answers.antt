use Rattle.std.proofs.Common.{None}
use Rattle.std.proofs.lemmas.Result.{IfOk-from_err}
use Rattle.meta_explain.proofs.Typed.{fits_none, fits_some, none_fits}
use Rattle.meta_explain.proofs.explaining.control_wanted.Goals as goal

pub returns-then-offset-eq-NO_TYPE_SET : goal.returns-then-offset-eq-NO_TYPE_SET
returns-then-offset-eq-NO_TYPE_SET c = λ d. (
  fits_none c.args.tables.now c.args.offset d c.if-offset-eq-NO_TYPE_SET.true,
  none_fits c.args.tables.now c.args.offset d c.if-offset-eq-NO_TYPE_SET.true,
)

pub returns : goal.returns
returns c = (
  λ fits. let (n, is, contains) = fits_some c.args.tables.now c.args.offset None c.if-offset-eq-NO_TYPE_SET.false fits in (cc),
  c.in_ok-types.ensures,
)

pub returns-in_err-types : goal.returns-in_err-types
returns-in_err-types c = IfOk-from_err c.from_residual.result _ c.from_residual.ensures.0
