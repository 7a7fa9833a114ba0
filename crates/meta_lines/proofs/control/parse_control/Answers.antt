use Rattle.std.proofs.Common.{sym, ◌∙◌}
use Rattle.std.specs.Cmp.Lexicographic.{other_text}
use Rattle.meta_lines.proofs.ControlLemmas.{refused_first, refused_second, one_part_control, two_controls}
use Rattle.meta_lines.proofs.control.parse_control.Goals as goal

pub returns-in_err-number-clause-none : goal.returns-in_err-number-clause-none
returns-in_err-number-clause-none c =
    rw c.from_residual.ensures (refused_first c.args.word.now _ _ (λ e. other_text _ _ c.if-eq.ensures (e
    ∙ sym c.as_slice.ensures)) c.cut.ensures c.in_err-number.ensures.none)

pub returns-in_err-second-in-Some-clause-none : goal.returns-in_err-second-in-Some-clause-none
returns-in_err-second-in-Some-clause-none c =
    rw c.from_residual-in_err-second-in-Some.ensures (refused_second c.args.word.now c.cut.result.0.now c.in-Some.name.now
    (λ e. other_text _ _ c.if-eq.ensures (e ∙ sym c.as_slice.ensures))
    (rw c.in-Some.is at c.cut.ensures) c.in_err-second-in-Some.ensures.none)

pub returns-in-None-clause-found : goal.returns-in-None-clause-found
returns-in-None-clause-found c =
    let is = c.in_ok-number.ensures.found in
    one_part_control c.args.word.now c.cut.result.0.now _ (rw c.in-None.is at c.cut.ensures) is.named

pub returns-in_ok-second-in-Some-clause-found : goal.returns-in_ok-second-in-Some-clause-found
returns-in_ok-second-in-Some-clause-found c =
    let is = c.in_ok-number.ensures.found in
    let other = c.in_ok-second-in-Some.ensures.found in
    two_controls c.args.word.now c.cut.result.0.now c.in-Some.name.now _ _ (rw c.in-Some.is at c.cut.ensures) is.named other.named
