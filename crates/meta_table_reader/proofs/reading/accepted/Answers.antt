use Rattle.std.proofs.Common.{refl, sym, ◌∙◌}
use Rattle.std.specs.Cmp.Lexicographic.{bytes_decides}
use Rattle.std.proofs.lemmas.Bool.{false≢true}
use Rattle.meta_table_reader.proofs.reading.accepted.Goals as goal

pub returns-then-not-fits-clause-none : goal.returns-then-not-fits-clause-none
returns-then-not-fits-clause-none c = λ fits is. false≢true (sym c.if-not-fits.true ∙ c.fits.ensures.1 fits)

pub returns-then-not-is_text-clause-none : goal.returns-then-not-is_text-clause-none
returns-then-not-is_text-clause-none c = λ fits is.
    let written = c.as_bytes.ensures.value ∙ c.in_ok-written.ensures in
    let decides = bytes_decides c.as_bytes.result.now c.args.text.now in
    false≢true (sym c.if-not-is_text.true ∙ c.eq-is_text.ensures ∙ decides.1 (written ∙ sym is))

pub returns-clause-some : goal.returns-clause-some
returns-clause-some c =
    let written = c.as_bytes.ensures.value ∙ c.in_ok-written.ensures in
    let decides = bytes_decides c.as_bytes.result.now c.args.text.now in
    (refl, c.fits.ensures.0 c.if-not-fits.false, sym (decides.0 (sym c.eq-is_text.ensures ∙ c.if-not-is_text.false)) ∙ written)
