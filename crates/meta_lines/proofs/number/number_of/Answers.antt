use Rattle.std.proofs.Common.{◌≡◌, Ok, ◌∙◌, sym, ap}
use Rattle.std.proofs.lemmas.Fmt.{parse-decimal}
use Rattle.meta_lines.specs.Number.{is_plain}
use Rattle.meta_lines.proofs.NumberLemmas.{no_fault, not_text, not_plain, written}
use Rattle.meta_lines.proofs.number.number_of.Goals as goal

pub returns-in_default-clause-none : goal.returns-in_default-clause-none
returns-in_default-clause-none c = λ n few e. not_text n c.args.word.now few e c.in_default.ensures.cases.0

pub returns-in_default-parse-clause-none : goal.returns-in_default-parse-clause-none
returns-in_default-parse-clause-none c = λ n few e. not_plain n c.args.word.now few e (sym c.is_plain.ensures ∙ c.if-is_plain.false)

pub returns-in_default-parse-2-clause-none : goal.returns-in_default-parse-2-clause-none
returns-in_default-parse-2-clause-none c = λ n few e.
    let parsed : c.parse.result ≡ Ok n = parse-decimal 64 n c.in-Ok.text.now c.parse.result few few (c.in-Ok.ensures.cases.0
    ∙ e) c.parse.ensures.value.0 in
    no_fault c.parse.result n c.in_default-parse.field-0 parsed c.in_default-parse.is

pub returns-in-Ok-parse-clause-some : goal.returns-in-Ok-parse-clause-some
returns-in-Ok-parse-clause-some c =
    sym c.in-Ok.ensures.cases.0 ∙ written c.in-Ok.text.now c.parse.result c.in-Ok-parse.number c.in-Ok-parse.is c.parse.ensures.value.0
    (ap is_plain c.in-Ok.ensures.cases.0 ∙ sym c.is_plain.ensures ∙ c.if-is_plain.true)
