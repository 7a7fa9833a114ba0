use Rattle.std.proofs.Common.{string_bytes, sym, subst}
use Rattle.std.proofs.lemmas.Result.{IfOk-weaker}
use Rattle.meta_asm.specs.Made.{AreMade}
use Rattle.meta_asm.specs.Form.{written_in}
use Rattle.meta_asm.specs.declared.form.Form.{Form}
use Rattle.meta_asm.proofs.MeaningLemmas.{shortened_means, spelled_means}
use Rattle.meta_asm.proofs.assembler.FormAnswerer.answer.Goals as goal

pub returns-in-Short : goal.returns-in-Short
returns-in-Short c =
    let d = c.args.built.now.declared in
    let t = c.in_ok-tables.ensures in
    let valid = c.declarations-declarations.ensures.valid in
    let made : AreMade d.set c.in_ok-tables.tables.opcodes =
    record { valid = valid.set; tables_of = t.tables.opcodes; well_formed = t.well_formed.opcodes; acceptance = t.acceptance } in
    IfOk-weaker c.shortened.result _ _
    (λ answer h. subst (λ (f : Form). written_in f d c.args.input.now answer.is_rejection (string_bytes answer.text)) (sym c.in-Short.is)
    (shortened_means d.set c.in_ok-tables.tables.opcodes (c.short_forms_mean.ensures.short d.set c.in_ok-tables.tables.opcodes made)
    (c.verdicts_mean.ensures.verdict d c.in_ok-tables.tables.opcodes valid t.tables.opcodes t.acceptance) c.args.input.now
    answer.is_rejection (string_bytes answer.text) h))
    c.shortened.ensures

pub returns : goal.returns
returns c =
    let d = c.args.built.now.declared in
    let t = c.in_ok-tables.ensures in
    let valid = c.declarations-declarations.ensures.valid in
    let made : AreMade d.set c.in_ok-tables.tables.opcodes =
    record { valid = valid.set; tables_of = t.tables.opcodes; well_formed = t.well_formed.opcodes; acceptance = t.acceptance } in
    IfOk-weaker c.spelled.result _ _
    (λ answer h. subst (λ (f : Form). written_in f d c.args.input.now answer.is_rejection (string_bytes answer.text))
    (sym c.in-Explicit.is) (spelled_means d.set c.in_ok-tables.tables.opcodes
    (c.short_forms_mean.ensures.short d.set c.in_ok-tables.tables.opcodes made) c.args.input.now answer.is_rejection
    (string_bytes answer.text) h))
    c.spelled.ensures
