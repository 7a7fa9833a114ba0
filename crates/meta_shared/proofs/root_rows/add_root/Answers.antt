use Rattle.std.proofs.Common.{subst, sym, ap, ◌∙◌}
use Rattle.std.proofs.lemmas.Result.{IfOk-from_err}
use Rattle.meta_typevar.specs.Intervals.{CanBuild}
use Rattle.meta_shared.specs.RootRows.{can_build_row}
use Rattle.meta_shared.proofs.Rooted.{buildable}
use Rattle.meta_shared.proofs.root_rows.add_root.Goals as goal

pub build-requires : goal.build-requires
build-requires c = subst CanBuild (sym c.builder.ensures)
    (buildable c.in-Set.row (ap can_build_row (sym c.in-Set.is) ∙ c.requires.buildable))

pub returns-in_err-set-in-Set-clause-number : goal.returns-in_err-set-in-Set-clause-number
returns-in_err-set-in-Set-clause-number c = IfOk-from_err c.from_residual.result _ c.from_residual.ensures.0

pub returns-in_err-set-in-Set-clause-added : goal.returns-in_err-set-in-Set-clause-added
returns-in_err-set-in-Set-clause-added c = IfOk-from_err c.from_residual.result _ c.from_residual.ensures.0

pub returns-in_err-name-in-Set-clause-number : goal.returns-in_err-name-in-Set-clause-number
returns-in_err-name-in-Set-clause-number c =
    IfOk-from_err c.from_residual-in_err-name-in-Set.result _ c.from_residual-in_err-name-in-Set.ensures.0

pub returns-in_err-name-in-Set-clause-added : goal.returns-in_err-name-in-Set-clause-added
returns-in_err-name-in-Set-clause-added c =
    IfOk-from_err c.from_residual-in_err-name-in-Set.result _ c.from_residual-in_err-name-in-Set.ensures.0

pub returns-in_err-doc-in-Set-clause-number : goal.returns-in_err-doc-in-Set-clause-number
returns-in_err-doc-in-Set-clause-number c =
    IfOk-from_err c.from_residual-in_err-doc-in-Set.result _ c.from_residual-in_err-doc-in-Set.ensures.0

pub returns-in_err-doc-in-Set-clause-added : goal.returns-in_err-doc-in-Set-clause-added
returns-in_err-doc-in-Set-clause-added c =
    IfOk-from_err c.from_residual-in_err-doc-in-Set.result _ c.from_residual-in_err-doc-in-Set.ensures.0
