use Rattle.std.proofs.Common.{◌++◌, [], ◌∷◌, length, length-append, sym, ap, ◌∙◌, arith}
use Rattle.std.proofs.lemmas.List.{same_from_push}
use Rattle.meta_table_reader.proofs.Controls.{marked, unmarked}
use Rattle.meta_table_reader.proofs.constraints.split_mark.Goals as goal

pub returns-in_default : goal.returns-in_default
returns-in_default c = λ a name free e. unmarked a name c.args.word.now e
    (λ rest is. omega (arith, c.in_default.ensures.cases, ap length is, length-append rest (50 ∷ [])))

pub returns-then-mark-eq50 : goal.returns-then-mark-eq50
returns-then-mark-eq50 c = λ a name free e.
    marked a name c.args.word.now c.in-Some.name.now free (c.in-Some.ensures.cases.0
    ∙ ap (λ x. c.in-Some.name.now ++ x ∷ []) c.if-mark-eq50.true) e

pub returns : goal.returns
returns c = λ a name free e.
    unmarked a name c.args.word.now e
    (λ rest is. c.if-mark-eq50.false (same_from_push c.in-Some.name.now rest c.in-Some.last.now 50 (sym c.in-Some.ensures.cases.0 ∙ is)).1)
