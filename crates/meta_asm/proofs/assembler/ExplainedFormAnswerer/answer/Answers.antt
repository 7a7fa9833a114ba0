use Rattle.std.proofs.Common.{List, ℕ, true, false, string_bytes, sym, subst}
use Rattle.std.proofs.lemmas.Result.{IfOk-weaker}
use Rattle.meta_asm.specs.Made.{AreMade}
use Rattle.meta_asm.specs.Why.{explained_in}
use Rattle.meta_asm.specs.declared.form.Form.{Form}
use Rattle.meta_asm.proofs.MeaningLemmas.{shortened_means, explained_short_means, spelled_means}
use Rattle.meta_asm.proofs.assembler.ExplainedFormAnswerer.answer.Goals as goal

pub returns-in-Short : goal.returns-in-Short
returns-in-Short c =
    let d = c.args.built.now.declared in
    let t = c.in_ok-tables.ensures in
    let valid = c.declarations-declarations.ensures.valid in
    let tables = c.in_ok-tables.tables.opcodes in
    let made : AreMade d.set tables =
    record { valid = valid.set; tables_of = t.tables.opcodes; well_formed = t.well_formed.opcodes; acceptance = t.acceptance } in
    IfOk-weaker c.explained_short.result _ _
    (λ answer h. subst (λ (f : Form). explained_in f d c.args.input.now answer.is_rejection (string_bytes answer.text)) (sym c.in-Short.is)
    (explained_short_means d tables
    (λ input text. shortened_means d.set tables (c.short_forms_mean.ensures.short d.set tables made)
    (c.verdicts_mean.ensures.verdict d tables valid t.tables.opcodes t.acceptance) input false text)
    (λ input text. c.verdicts_mean.ensures.explained d tables valid t.tables.opcodes t.acceptance input true text)
    c.args.input.now answer.is_rejection (string_bytes answer.text) h))
    c.explained_short.ensures

pub returns : goal.returns
returns c =
    let d = c.args.built.now.declared in
    let t = c.in_ok-tables.ensures in
    let valid = c.declarations-declarations.ensures.valid in
    let tables = c.in_ok-tables.tables.opcodes in
    let made : AreMade d.set tables =
    record { valid = valid.set; tables_of = t.tables.opcodes; well_formed = t.well_formed.opcodes; acceptance = t.acceptance } in
    IfOk-weaker c.spelled.result _ _
    (λ answer h. subst (λ (f : Form). explained_in f d c.args.input.now answer.is_rejection (string_bytes answer.text))
    (sym c.in-Explicit.is) (spelled_means d.set tables (c.short_forms_mean.ensures.short d.set tables made) c.args.input.now
    answer.is_rejection (string_bytes answer.text) h))
    c.spelled.ensures
