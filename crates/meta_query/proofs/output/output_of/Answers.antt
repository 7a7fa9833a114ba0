use Rattle.std.proofs.Common.{refl, sym, ap, subst, string_bytes}
use Rattle.std.specs.Prelude.{IfOk}
use Rattle.std.proofs.lemmas.Result.{IfOk-weaker}
use Rattle.meta_query.specs.Run.{has_input, IsOutputOf}
use Rattle.meta_query.proofs.output.output_of.Goals as goal

pub returns-in_ok-tables_of-in-Recheck : goal.returns-in_ok-tables_of-in-Recheck
returns-in_ok-tables_of-in-Recheck c =
    let d = c.args.built.now.declared in
    let tables = c.in_ok-tables_of-in-Recheck.ensures.tables in
    subst (λ x. IfOk c.recheck-in-Recheck.result (λ output. IsOutputOf x d c.args.input.now (string_bytes output))) (sym c.in-Recheck.is)
    (IfOk-weaker c.recheck-in-Recheck.result _ _ (λ output h. (_, tables, h)) c.recheck-in-Recheck.ensures)

pub returns-in-Instructions : goal.returns-in-Instructions
returns-in-Instructions c =
    let d = c.args.built.now.declared in
    let empty = c.requires (ap has_input c.in-Instructions.is) in
    subst (λ x. IfOk c.instructions_text.result (λ output. IsOutputOf x d c.args.input.now (string_bytes output)))
    (sym c.in-Instructions.is)
    (IfOk-weaker c.instructions_text.result _ _
    (λ output e. (empty, (c.args.built.now, c.declarations-declarations.ensures.built, refl, e))) c.instructions_text.ensures)

pub returns-in-Builder : goal.returns-in-Builder
returns-in-Builder c =
    let d = c.args.built.now.declared in
    let empty = c.requires (ap has_input c.in-Builder.is) in
    subst (λ x. IfOk c.builder_text.result (λ output. IsOutputOf x d c.args.input.now (string_bytes output))) (sym c.in-Builder.is)
    (IfOk-weaker c.builder_text.result _ _ (λ output e. (empty, (c.args.built.now, c.declarations-declarations.ensures.built, refl, e)))
    c.builder_text.ensures)
