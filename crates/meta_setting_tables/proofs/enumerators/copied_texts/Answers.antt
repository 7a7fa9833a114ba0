use Rattle.std.proofs.Common.{length, get_or, refl, ap, ◌∙◌}
use Rattle.std.proofs.lemmas.Option.{slice_get_read, slice_get-get_or}
use Rattle.std.proofs.lemmas.List.{take_all}
use Rattle.std.proofs.lemmas.Result.{IfOk-from_err}
use Rattle.meta_unique.specs.Interning.{pointed_to}
use Rattle.meta_setting_tables.specs.NumberedTexts.{texts_numbered}
use Rattle.meta_setting_tables.proofs.Enumerating.{copied_next}
use Rattle.meta_setting_tables.proofs.enumerators.copied_texts.Goals as goal

pub loop-number-preserved : goal.loop-number-preserved
loop-number-preserved c =
    let k = c.loop-number.number-index in
    let numbers = c.args.numbers.now in
    let texts = c.args.texts.now in
    let n = get_or numbers k 0 in
    let r = c.index-texts-number.result in
    let there = slice_get_read texts (length texts) n r refl (c.requires k 0 c.loop-number-test.true) c.index-texts-number.is in
    copied_next texts numbers k n r c.in_ok-copy.field-0 c.loop-number.copies.items c.push.new.self.items
    (slice_get-get_or numbers k 0 c.loop-number-test.true) there c.in_ok-copy.ensures c.loop-number.invariant c.in_ok-push.ensures.items

pub returns-in_err-copies : goal.returns-in_err-copies
returns-in_err-copies c = IfOk-from_err c.from_residual.result _ c.from_residual.ensures.0

pub returns-in_err-copy : goal.returns-in_err-copy
returns-in_err-copy c = IfOk-from_err c.from_residual-in_err-copy.result _ c.from_residual-in_err-copy.ensures.0

pub returns-in_err-push : goal.returns-in_err-push
returns-in_err-push c = IfOk-from_err c.from_residual-in_err-push.result _ c.from_residual-in_err-push.ensures.0

pub returns : goal.returns
returns c = c.loop-number.invariant
    ∙ ap (texts_numbered (pointed_to c.args.texts.now)) (take_all c.loop-number.number-index c.args.numbers.now c.loop-number-test.false)
