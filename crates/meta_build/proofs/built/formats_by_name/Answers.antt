use Rattle.std.proofs.lemmas.Result.{IfOk-from_err}
use Rattle.meta_build.proofs.ByName.{all_by_name}
use Rattle.meta_build.proofs.built.formats_by_name.Goals as goal

pub by_name-requires-clause-of_table : goal.by_name-requires-clause-of_table
by_name-requires-clause-of_table c = rw (c.formats.ensures.formats, c.deref.ensures.value) c.in_ok-used.ensures.of_table

pub by_name-requires-clause-apart : goal.by_name-requires-clause-apart
by_name-requires-clause-apart c = rw (c.formats.ensures.formats, c.deref.ensures.value) c.in_ok-used.ensures.apart

pub returns-clause-formats : goal.returns-clause-formats
returns-clause-formats c =
    all_by_name c.args.set.now c.in_ok-used.used.items c.in_ok-by_name.field-0.items c.in_ok-used.ensures.used
    (rw (c.formats.ensures.formats, c.deref.ensures.value) at c.in_ok-by_name.ensures)

pub returns-in_err-used-clause-clean : goal.returns-in_err-used-clause-clean
returns-in_err-used-clause-clean c = IfOk-from_err c.from_residual.result _ c.from_residual.ensures.0

pub returns-in_err-used-clause-formats : goal.returns-in_err-used-clause-formats
returns-in_err-used-clause-formats c = IfOk-from_err c.from_residual.result _ c.from_residual.ensures.0

pub returns-in_err-by_name-clause-clean : goal.returns-in_err-by_name-clause-clean
returns-in_err-by_name-clause-clean c = IfOk-from_err c.from_residual-in_err-by_name.result _ c.from_residual-in_err-by_name.ensures.0

pub returns-in_err-by_name-clause-formats : goal.returns-in_err-by_name-clause-formats
returns-in_err-by_name-clause-formats c = IfOk-from_err c.from_residual-in_err-by_name.result _ c.from_residual-in_err-by_name.ensures.0
