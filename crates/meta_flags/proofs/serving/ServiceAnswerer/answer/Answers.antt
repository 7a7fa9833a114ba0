use Rattle.std.proofs.Common.{Option, string_bytes, subst}
use Rattle.meta_lines.specs.Lines.{lines_of}
use Rattle.meta_flags.specs.Served.{Served, State}
use Rattle.meta_flags.specs.FlagAnswers.{AreFlagAnswers, IsOutputOver}
use Rattle.meta_flags.specs.Held.{served_by}
use Rattle.meta_flags.proofs.FirstGroup.{same_first, same_initial}
use Rattle.meta_flags.proofs.serving.ServiceAnswerer.answer.Goals as goal

pub returns : goal.returns
returns c =
    let out = string_bytes c.in_ok-answers.field-0 in
    let first = same_first c.args.built.now.declared _ c.in_ok-tables.ensures.tables
    c.tables_serve_what_is_declared.ensures c.in_ok-flags.flags c.in_ok-flags.ensures.group c.in_ok-flags.ensures.none in
    let own = subst (λ (s : State). AreFlagAnswers (served_by c.in_ok-flags.flags) s (lines_of c.args.input.now) out)
    (same_initial c.in_ok-flags.flags c.in_ok-flags.ensures.state) c.in_ok-answers.ensures in
    subst (λ (g : Option Served). IsOutputOver g c.args.input.now out) first own
