use Rattle.std.proofs.Common.{Some, sym, ap, ◌∙◌, below_more, arith}
use Rattle.std.specs.Cmp.Lexicographic.{bytes_decides}
use Rattle.std.proofs.lemmas.Bool.{false≢true}
use Rattle.std.proofs.lemmas.Option.{same_Some, slice_get-get_or}
use Rattle.meta_flags.proofs.values.named.Goals as goal

pub loop-text-preserved : goal.loop-text-preserved
loop-text-preserved c =
    let k = c.loop-text.text-index in
    let item = slice_get-get_or c.args.texts.now k c.text-item.result c.loop-text-test.true ∙ ap Some (sym c.text-item.is) in
    below_more _ _ c.loop-text.invariant (λ at. false≢true (sym c.if-eq.false ∙ c.eq.ensures
    ∙ (bytes_decides _ _).1 (c.as_bytes.ensures ∙ same_Some _ _ (sym item ∙ at))))

pub returns-clause-none : goal.returns-clause-none
returns-clause-none c = λ contains.
    let past = c.loop-text-test.false in
    let less = contains.1 in
    c.loop-text.invariant contains.0 (omega (arith, less, past)) (slice_get-get_or c.args.texts.now contains.0 c.args.name.now less
    ∙ ap Some contains.2)
