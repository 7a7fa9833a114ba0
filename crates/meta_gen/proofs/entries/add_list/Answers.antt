use Rattle.std.proofs.lemmas.Result.{IfOk-from_err}
use Rattle.meta_gen.proofs.Overlapping.{made_is, kept_stays, stands_read}
use Rattle.meta_gen.proofs.entries.add_list.Goals as goal

pub returns-clause-made : goal.returns-clause-made
returns-clause-made c = made_is c.args.constraints.now c.args.list.now c.add.new.self c.in_ok-place.ensures.made

pub returns-clause-stands : goal.returns-clause-stands
returns-clause-stands c = stands_read c.add.new.self c.args.list.now c.in_ok-place.place c.in_ok-place.ensures.stands

pub returns-clause-stays : goal.returns-clause-stays
returns-clause-stays c = kept_stays c.args.constraints.now c.add.new.self c.in_ok-place.ensures.kept

pub returns-in_err-place-clause-made : goal.returns-in_err-place-clause-made
returns-in_err-place-clause-made c = IfOk-from_err c.from_residual.result _ c.from_residual.ensures.0

pub returns-in_err-place-clause-place : goal.returns-in_err-place-clause-place
returns-in_err-place-clause-place c = IfOk-from_err c.from_residual.result _ c.from_residual.ensures.0

pub returns-in_err-place-clause-stands : goal.returns-in_err-place-clause-stands
returns-in_err-place-clause-stands c = IfOk-from_err c.from_residual.result _ c.from_residual.ensures.0

pub returns-in_err-place-clause-stays : goal.returns-in_err-place-clause-stays
returns-in_err-place-clause-stays c = IfOk-from_err c.from_residual.result _ c.from_residual.ensures.0

pub returns-in_err-place-clause-count : goal.returns-in_err-place-clause-count
returns-in_err-place-clause-count c = IfOk-from_err c.from_residual.result _ c.from_residual.ensures.0
