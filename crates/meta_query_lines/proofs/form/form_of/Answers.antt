use Rattle.std.proofs.Common.{sym, ◌∙◌}
use Rattle.meta_query_lines.proofs.FormLemmas.{one_piece, words_found, not_a_command, no_accept, no_infer, no_setting_word}
use Rattle.meta_query_lines.proofs.form.form_of.Goals as goal

pub returns-in_err-after-clause-none : goal.returns-in_err-after-clause-none
returns-in_err-after-clause-none c =
    rw c.from_residual.ensures (one_piece c.args.line.now c.cut.result.0.now (rw c.in_err-after.was at c.cut.ensures))

pub returns-in_err-command-clause-none : goal.returns-in_err-command-clause-none
returns-in_err-command-clause-none c =
    rw c.from_residual-in_err-command.ensures (not_a_command c.args.line.now c.cut.result.0.now c.in_ok-after.after.now
    (rw c.in_ok-after.was at c.cut.ensures) (sym c.command_of.ensures ∙ c.in_err-command.was))

pub returns-in_err-accept-in-Accept-clause-none : goal.returns-in_err-accept-in-Accept-clause-none
returns-in_err-accept-in-Accept-clause-none c =
    rw c.from_residual-in_err-accept-in-Accept.ensures (no_accept c.args.line.now c.cut.result.0.now c.in_ok-after.after.now
    (rw c.in_ok-after.was at c.cut.ensures) (rw c.in-Accept.is at (sym c.command_of.ensures
    ∙ c.in_ok-command.was)) c.in_err-accept-in-Accept.ensures.none)

pub returns-in_err-infer-in-Infer-clause-none : goal.returns-in_err-infer-in-Infer-clause-none
returns-in_err-infer-in-Infer-clause-none c =
    rw c.from_residual-in_err-infer-in-Infer.ensures (no_infer c.args.line.now c.cut.result.0.now c.in_ok-after.after.now
    (rw c.in_ok-after.was at c.cut.ensures) (rw c.in-Infer.is at (sym c.command_of.ensures
    ∙ c.in_ok-command.was)) c.in_err-infer-in-Infer.ensures.none)

pub returns-in_err-setting-in-Setting-clause-none : goal.returns-in_err-setting-in-Setting-clause-none
returns-in_err-setting-in-Setting-clause-none c =
    rw c.from_residual-in_err-setting-in-Setting.ensures
    (no_setting_word c.args.line.now c.cut.result.0.now c.in_ok-after.after.now (rw c.in_ok-after.was at c.cut.ensures)
    (rw c.in-Setting.is at (sym c.command_of.ensures ∙ c.in_ok-command.was)) c.in_err-setting-in-Setting.ensures.none)

pub returns-in_ok-accept-in-Accept-clause-words : goal.returns-in_ok-accept-in-Accept-clause-words
returns-in_ok-accept-in-Accept-clause-words c =
    words_found c.args.line.now c.cut.result.0.now c.in_ok-after.after.now (rw c.in_ok-after.was at c.cut.ensures) _ _
    (rw c.in-Accept.is at (sym c.command_of.ensures ∙ c.in_ok-command.was)) c.in_ok-accept-in-Accept.ensures.words

pub returns-in_ok-infer-in-Infer-clause-words : goal.returns-in_ok-infer-in-Infer-clause-words
returns-in_ok-infer-in-Infer-clause-words c =
    words_found c.args.line.now c.cut.result.0.now c.in_ok-after.after.now (rw c.in_ok-after.was at c.cut.ensures) _ _
    (rw c.in-Infer.is at (sym c.command_of.ensures ∙ c.in_ok-command.was)) c.in_ok-infer-in-Infer.ensures.words

pub returns-in_ok-setting-in-Setting-clause-words : goal.returns-in_ok-setting-in-Setting-clause-words
returns-in_ok-setting-in-Setting-clause-words c =
    words_found c.args.line.now c.cut.result.0.now c.in_ok-after.after.now (rw c.in_ok-after.was at c.cut.ensures) _ _
    (rw c.in-Setting.is at (sym c.command_of.ensures ∙ c.in_ok-command.was)) c.in_ok-setting-in-Setting.ensures.words
