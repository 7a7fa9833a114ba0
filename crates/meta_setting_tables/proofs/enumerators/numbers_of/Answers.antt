use Rattle.std.proofs.Common.{length, refl, sym, subst}
use Rattle.std.proofs.lemmas.Option.{slice_get_read}
use Rattle.std.proofs.lemmas.Result.{IfOk-from_err}
use Rattle.meta_setting_tables.specs.NumberedTexts.{KeepsNumbers}
use Rattle.meta_setting_tables.proofs.Enumerating.{kept_same, kept_then, kept_added, numbers_next, numbers_none, numbers_all}
use Rattle.meta_setting_tables.proofs.enumerators.numbers_of.Goals as goal

pub loop-value-preserved : goal.loop-value-preserved
loop-value-preserved c =
    let k = c.loop-value.value-index in
    let at = slice_get_read c.args.values.now (length c.args.values.now) k c.value-item.result refl c.loop-value-test.true c.value-item.is
    in
    let kept = kept_added c.loop-value.texts c.add.new.self c.value-item.result
    (λ i h. (c.in_ok-add.ensures.known i h).1) c.in_ok-add.ensures.added in
    record {
      numbers = numbers_next c.loop-value.texts c.add.new.self c.args.values.now k c.in_ok-add.field-0 c.value-item.result
          c.loop-value.numbers.items c.push.new.self.items at kept c.in_ok-add.ensures.index c.loop-value.invariant.numbers
          c.in_ok-push.ensures.items;
      different = c.in_ok-add.ensures.different;
      kept = kept_then c.args.texts.now c.loop-value.texts c.add.new.self c.loop-value.invariant.kept kept;
    }

pub returns-in_err-push-clause-kept : goal.returns-in_err-push-clause-kept
returns-in_err-push-clause-kept c =
    kept_then c.args.texts.now c.loop-value.texts c.add.new.self c.loop-value.invariant.kept
    (kept_added c.loop-value.texts c.add.new.self c.value-item.result (λ i h. (c.in_ok-add.ensures.known i h).1) c.in_ok-add.ensures.added)

pub returns-in_err-numbers-clause-numbers : goal.returns-in_err-numbers-clause-numbers
returns-in_err-numbers-clause-numbers c = IfOk-from_err c.from_residual.result _ c.from_residual.ensures.0

pub returns-in_err-numbers-clause-different : goal.returns-in_err-numbers-clause-different
returns-in_err-numbers-clause-different c = c.requires

pub returns-in_err-add-clause-numbers : goal.returns-in_err-add-clause-numbers
returns-in_err-add-clause-numbers c = IfOk-from_err c.from_residual-in_err-add.result _ c.from_residual-in_err-add.ensures.0

pub returns-in_err-add-clause-different : goal.returns-in_err-add-clause-different
returns-in_err-add-clause-different c = c.in_err-add.ensures.different

pub returns-in_err-add-clause-kept : goal.returns-in_err-add-clause-kept
returns-in_err-add-clause-kept c =
    subst (KeepsNumbers c.args.texts.now) (sym c.in_err-add.ensures.err) c.loop-value.invariant.kept

pub returns-in_err-push-clause-numbers : goal.returns-in_err-push-clause-numbers
returns-in_err-push-clause-numbers c = IfOk-from_err c.from_residual-in_err-push.result _ c.from_residual-in_err-push.ensures.0

pub returns-in_err-push-clause-different : goal.returns-in_err-push-clause-different
returns-in_err-push-clause-different c = c.in_ok-add.ensures.different

pub returns-clause-different : goal.returns-clause-different
returns-clause-different c = c.loop-value.invariant.different

pub returns-clause-kept : goal.returns-clause-kept
returns-clause-kept c = c.loop-value.invariant.kept

pub returns-in_err-numbers-clause-kept : goal.returns-in_err-numbers-clause-kept
returns-in_err-numbers-clause-kept c = kept_same c.args.texts.now c.args.texts.now refl

pub loop-value-init : goal.loop-value-init
loop-value-init c = record {
  numbers = numbers_none c.args.texts.now c.args.values.now c.in_ok-numbers.numbers.items c.in_ok-numbers.ensures.items;
  different = c.requires;
  kept = kept_same c.args.texts.now c.args.texts.now refl;
}

pub returns-clause-numbers : goal.returns-clause-numbers
returns-clause-numbers c = numbers_all c.loop-value.texts c.args.values.now c.loop-value.value-index c.loop-value.numbers.items
    c.loop-value-test.false c.loop-value.invariant.numbers
