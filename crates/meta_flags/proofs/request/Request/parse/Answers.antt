use Rattle.std.proofs.Common.{sym, ◌∙◌}
use Rattle.meta_flags.proofs.RequestLemmas.{no_first_word, no_command, no_request, no_more, asks}
use Rattle.meta_flags.proofs.request.Request.parse.Goals as goal

pub returns-in_err-word-clause-none : goal.returns-in_err-word-clause-none
returns-in_err-word-clause-none c =
    rw c.from_residual.ensures (no_first_word c.args.line.now
    (λ word rest bytes e. c.in_err-word.ensures.none word rest bytes (c.new-words.ensures ∙ e)))

pub returns-in_err-command-clause-none : goal.returns-in_err-command-clause-none
returns-in_err-command-clause-none c =
    rw c.from_residual-in_err-command.ensures (no_command c.args.line.now _ _ (sym c.new-words.ensures
    ∙ c.in_ok-word.ensures.taken) c.in_err-command.ensures.none)

pub returns-in_err-request-clause-none : goal.returns-in_err-request-clause-none
returns-in_err-request-clause-none c =
    rw c.from_residual-in_err-request.ensures (no_request c.args.line.now _ _ (sym c.new-words.ensures
    ∙ c.in_ok-word.ensures.taken) _ c.in_ok-command.ensures.some c.in_err-request.ensures.none)

pub returns-then-is_done-clause-some : goal.returns-then-is_done-clause-some
returns-then-is_done-clause-some c =
    asks c.args.line.now _ _ (sym c.new-words.ensures ∙ c.in_ok-word.ensures.taken) _ c.in_ok-command.ensures.some _ _
    c.in_ok-request.ensures.taken c.in_ok-request.ensures.some (c.is_done.ensures.done c.if-is_done.true)

pub returns-clause-none : goal.returns-clause-none
returns-clause-none c =
    let more = c.is_done.ensures.more c.if-is_done.false in
    no_more c.args.line.now _ _ (sym c.new-words.ensures
    ∙ c.in_ok-word.ensures.taken) _ c.in_ok-command.ensures.some _ _ c.in_ok-request.ensures.taken more.0 more.1 more.2
