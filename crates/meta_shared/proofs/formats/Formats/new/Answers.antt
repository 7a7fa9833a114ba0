use Rattle.std.proofs.Common.{refl}
use Rattle.std.proofs.lemmas.Result.{IfOk-from_err}
use Rattle.meta_shared.proofs.Added.{all_counted}
use Rattle.meta_shared.proofs.Numbered.{numbered_from, numbered_below}
use Rattle.meta_shared.proofs.formats.Formats.new.Goals as goal

pub add_formats-requires-clause-rows : goal.add_formats-requires-clause-rows
add_formats-requires-clause-rows c = record { names = refl; sound = refl }

pub returns-clause-count : goal.returns-clause-count
returns-clause-count c = all_counted _ _ _ _ c.in_ok-ids.ensures.added

pub returns-clause-numbers : goal.returns-clause-numbers
returns-clause-numbers c = numbered_from _ _ _ _ c.in_ok-ids.ensures.numbers c.deref.ensures.value c.named.ensures

pub returns-clause-of : goal.returns-clause-of
returns-clause-of c = numbered_below _ _ _ (numbered_from _ _ _ _ c.in_ok-ids.ensures.numbers c.deref.ensures.value c.named.ensures)
    (all_counted _ _ _ _ c.in_ok-ids.ensures.added)

pub returns-in_err-ids-clause-added : goal.returns-in_err-ids-clause-added
returns-in_err-ids-clause-added c = IfOk-from_err c.from_residual.result _ c.from_residual.ensures.0

pub returns-in_err-ids-clause-count : goal.returns-in_err-ids-clause-count
returns-in_err-ids-clause-count c = IfOk-from_err c.from_residual.result _ c.from_residual.ensures.0

pub returns-in_err-ids-clause-numbers : goal.returns-in_err-ids-clause-numbers
returns-in_err-ids-clause-numbers c = IfOk-from_err c.from_residual.result _ c.from_residual.ensures.0

pub returns-in_err-ids-clause-of : goal.returns-in_err-ids-clause-of
returns-in_err-ids-clause-of c = IfOk-from_err c.from_residual.result _ c.from_residual.ensures.0
