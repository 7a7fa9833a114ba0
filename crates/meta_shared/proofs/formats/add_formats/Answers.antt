use Rattle.std.proofs.Common.{subst, sym, ◌∙◌}
use Rattle.std.proofs.lemmas.Result.{IfOk-from_err}
use Rattle.meta_lists.proofs.Results.{on_err}
use Rattle.meta_shared.specs.Formats.{AreNumbered}
use Rattle.meta_shared.proofs.Numbered.{numbered_more}
use Rattle.meta_shared.proofs.Added.{formats_more, formats_counted, front}
use Rattle.meta_shared.proofs.formats.add_formats.Goals as goal

pub loop-row-preserved : goal.loop-row-preserved
loop-row-preserved c = record {
  formats = formats_more _ _ _ _ _ _ _ _ c.loop-row-test.true c.loop-row.invariant.formats c.in_ok-add_format.ensures.added;
  numbers = subst (AreNumbered _ _) (sym c.in_ok-push.ensures.items)
      (numbered_more _ _ _ _ c.loop-row.invariant.numbers (c.in_ok-add_format.ensures.number
      ∙ formats_counted _ _ _ _ _ _ c.loop-row-test.true c.loop-row.invariant.formats));
}

pub returns-in_err-add_format-clause-front : goal.returns-in_err-add_format-clause-front
returns-in_err-add_format-clause-front c =
    on_err c.from_residual.result (front _ _ _ _ _ _ c.requires.rows (c.in_err-add_format.ensures.unchanged
    ∙ c.loop-row.invariant.formats))

pub returns-in_err-push-clause-front : goal.returns-in_err-push-clause-front
returns-in_err-push-clause-front c = on_err c.from_residual-in_err-push.result
    (front _ _ _ _ _ _ c.requires.rows
    (formats_more _ _ _ _ _ _ _ _ c.loop-row-test.true c.loop-row.invariant.formats c.in_ok-add_format.ensures.added))

pub returns-in_err-add_format-clause-added : goal.returns-in_err-add_format-clause-added
returns-in_err-add_format-clause-added c = IfOk-from_err c.from_residual.result _ c.from_residual.ensures.0

pub returns-in_err-add_format-clause-numbers : goal.returns-in_err-add_format-clause-numbers
returns-in_err-add_format-clause-numbers c = IfOk-from_err c.from_residual.result _ c.from_residual.ensures.0

pub returns-in_err-push-clause-added : goal.returns-in_err-push-clause-added
returns-in_err-push-clause-added c = IfOk-from_err c.from_residual-in_err-push.result _ c.from_residual-in_err-push.ensures.0

pub returns-in_err-push-clause-numbers : goal.returns-in_err-push-clause-numbers
returns-in_err-push-clause-numbers c = IfOk-from_err c.from_residual-in_err-push.result _ c.from_residual-in_err-push.ensures.0
