use Rattle.std.proofs.Common.{sym, ◌∙◌}
use Rattle.std.specs.Cmp.Lexicographic.{other_text}
use Rattle.meta_query_lines.proofs.SoughtLemmas.{names_nothing}
use Rattle.meta_query_lines.proofs.sought.sought_type.Goals as goal

pub returns-in-None-clause-none : goal.returns-in-None-clause-none
returns-in-None-clause-none c =
    names_nothing c.args.name.now (λ e. other_text _ _ c.if-eq.ensures (e ∙ sym c.as_slice.ensures)) c.in-None.ensures.none
