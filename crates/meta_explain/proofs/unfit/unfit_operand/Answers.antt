use Rattle.meta_explain.specs.Parts.{numbers_of}
use Rattle.meta_explain.proofs.Failing.{first_in_left, first_in_right, all_in_both}
use Rattle.meta_explain.proofs.unfit.unfit_operand.Goals as goal

pub returns-in-Some-clause-some : goal.returns-in-Some-clause-some
returns-in-Some-clause-some c =
    first_in_left c.args.tables.now (numbers_of c.args.controls) c.args.offset c.args.results.now c.args.values.now _ c.in-Some.ensures.some

pub returns-in_err-k-clause-none : goal.returns-in_err-k-clause-none
returns-in_err-k-clause-none c =
    rw c.from_residual.ensures (all_in_both c.args.tables.now (numbers_of c.args.controls) c.args.offset c.args.results.now
    c.args.values.now c.in_default.ensures.none c.in_err-k.ensures.none)

pub returns-in_err-k-clause-some : goal.returns-in_err-k-clause-some
returns-in_err-k-clause-some c = rw c.from_residual.ensures tt

pub returns-clause-some : goal.returns-clause-some
returns-clause-some c =
    first_in_right c.args.tables.now (numbers_of c.args.controls) c.args.offset c.args.results.now
    c.args.values.now c.in_default.ensures.none _ c.in_ok-k.ensures.some
