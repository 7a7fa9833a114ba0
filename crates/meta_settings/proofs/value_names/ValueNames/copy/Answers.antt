use Rattle.std.proofs.Common.{◌∙◌, sym, ap, ◌++◌, ◌∷◌, [], take}
use Rattle.std.proofs.lemmas.List.{take_more, take_all}
use Rattle.meta_settings.proofs.value_names.ValueNames.copy.Goals as goal

pub loop-text-preserved : goal.loop-text-preserved
loop-text-preserved c =
    let texts = c.as_slice-texts.result.now in
    let i = c.loop-text.text-index in
    c.in_ok-push.ensures.items ∙ ap (λ z. z ++ c.in_ok-copy.field-0 ∷ []) c.loop-text.invariant
    ∙ ap (λ z. take i texts ++ z ∷ []) (c.in_ok-copy.ensures ∙ c.text-item.is)
    ∙ sym (take_more texts i c.text-item.result c.loop-text-test.true)

pub returns : goal.returns
returns c = c.loop-text.invariant ∙ take_all c.loop-text.text-index c.as_slice-texts.result.now c.loop-text-test.false
    ∙ c.as_slice-texts.ensures
