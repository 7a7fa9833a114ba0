use Rattle.std.proofs.Common.{◌∙◌, sym, ap, ◌++◌, take}
use Rattle.std.proofs.lemmas.List.{append_assoc, take_more, take_all, append-nil}
use Rattle.meta_settings.specs.TurnedOn.{firsts}
use Rattle.meta_settings.proofs.first_named.FirstNamed.add_all.Goals as goal

pub loop-number-init : goal.loop-number-init
loop-number-init c = λ named e. e ∙ sym (ap firsts (append-nil named))

pub loop-number-preserved : goal.loop-number-preserved
loop-number-preserved c = λ named e.
    let numbers = c.args.numbers.now in
    let i = c.loop-number.number-index in
    c.in_ok-add.ensures (named ++ take i numbers) (c.loop-number.invariant named e)
    ∙ ap firsts (append_assoc named (take i numbers) _ ∙ ap (λ z. named ++ z) (sym (take_more numbers i 0 c.loop-number-test.true)))

pub returns : goal.returns
returns c = λ named e. c.loop-number.invariant named e
    ∙ ap (λ z. firsts (named ++ z)) (take_all c.loop-number.number-index c.args.numbers.now c.loop-number-test.false)
