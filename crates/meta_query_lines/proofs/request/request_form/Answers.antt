use Rattle.std.proofs.Common.{sym, ◌∙◌}
use Rattle.std.specs.Prelude.{Option, None, Some, IfNone}
use Rattle.std.specs.Cmp.Lexicographic.{other_text}
use Rattle.meta_query_lines.proofs.RequestLemmas.{one_word}
use Rattle.meta_query_lines.proofs.request.request_form.Goals as goal

if_none : {X P Q : Type 0} (o : Option X) → (P → Q) → IfNone o P → IfNone o Q
if_none None f p = f p
if_none (Some x) f p = tt

pub returns-in-Some-clause-none : goal.returns-in-Some-clause-none
returns-in-Some-clause-none c =
    if_none c.form_after.result (λ f r. f c.args.line.now r (rw c.in-Some.is at c.cut.ensures)) c.form_after.ensures.none

pub returns-in-None-2-clause-none : goal.returns-in-None-2-clause-none
returns-in-None-2-clause-none c =
    one_word c.args.line.now c.cut.result.0.now (rw c.in-None.is at c.cut.ensures)
    (λ e. other_text _ _ c.if-eq.ensures (e ∙ sym c.as_slice.ensures))
