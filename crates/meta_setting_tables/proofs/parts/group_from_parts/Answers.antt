use Rattle.std.proofs.Common.{sym, ◌∙◌}
use Rattle.std.proofs.lemmas.Bool.{false≢true}
use Rattle.meta_setting_tables.proofs.FromParts.{parts_good}
use Rattle.meta_setting_tables.proofs.parts.group_from_parts.Goals as goal

pub returns-then-not-branch-clause-none : goal.returns-then-not-branch-clause-none
returns-then-not-branch-clause-none c = λ t well has. false≢true (sym c.if-not-branch.true
    ∙ c.in_ok-are_good.ensures.1 (parts_good c.args.parts t well has))
