use Rattle.std.proofs.Common.{◌∙◌, ◌++◌, ℕ, map, sym, ap, subst}
use Rattle.std.specs.List.{AllZip}
use Rattle.std.proofs.lemmas.Result.{IfOk-from_err}
use Rattle.meta_shared.specs.CoreFormats.{core_formats}
use Rattle.meta_shared.specs.CoreNames.{core_names}
use Rattle.meta_shared.specs.Words.{Meanings, AreMeant}
use Rattle.meta_shared.specs.Rows.{row_name, row_format, rows_in, FitsNames}
use Rattle.meta_shared.proofs.Fitting.{all_fit, names_added}
use Rattle.meta_shared.proofs.definition.add_instructions.Goals as goal

pub push_tables-requires-clause-meant : goal.push_tables-requires-clause-meant
push_tables-requires-clause-meant c = subst (AreMeant c.core_instructions.new.vars) (sym c.new-names.ensures)
    (record { immediates = c.requires.immediates; entities = c.requires.entities; roots = c.in_ok-roots.ensures.roots })

pub returns-clause-names : goal.returns-clause-names
returns-clause-names c =
    names_added c.in_ok-push_tables.ensures.rows
    ∙ (ap (λ xs. xs ++ map row_name (rows_in c.ops_tables.result)) c.in_ok-roots.ensures.names
    ∙ ap (λ xs. core_names ++ xs) c.ops_tables.ensures.are_named)

pub returns-clause-fit : goal.returns-clause-fit
returns-clause-fit c =
    let formats = ap (λ (m : Meanings). m.formats) c.new-names.ensures in
    let meant : AreMeant c.core_instructions.new.vars c.new-names.result =
    subst (AreMeant c.core_instructions.new.vars) (sym c.new-names.ensures) (record {
      immediates = c.requires.immediates;
      entities = c.requires.entities;
      roots = c.in_ok-roots.ensures.roots;
    }) in
    subst (λ more. AllZip (FitsNames c.push_tables.new.vars c.args.formats.now) (core_formats ++ more) c.push_tables.new.all)
    c.ops_tables.ensures.are_of
    (subst (λ f. AllZip (FitsNames c.push_tables.new.vars f) (core_formats ++ map row_format (rows_in c.ops_tables.result))
    c.push_tables.new.all) formats
    (all_fit core_formats c.in_ok-push_tables.ensures.grows meant c.in_ok-push_tables.ensures.rows
    (subst (λ f. AllZip (FitsNames c.core_instructions.new.vars f) core_formats c.core_instructions.new.all)
    (sym formats) c.in_ok-roots.ensures.fit)))

pub returns-in_err-roots-clause-names : goal.returns-in_err-roots-clause-names
returns-in_err-roots-clause-names c = IfOk-from_err c.from_residual.result _ c.from_residual.ensures.0

pub returns-in_err-roots-clause-fit : goal.returns-in_err-roots-clause-fit
returns-in_err-roots-clause-fit c = IfOk-from_err c.from_residual.result _ c.from_residual.ensures.0

pub returns-in_err-push_tables-clause-names : goal.returns-in_err-push_tables-clause-names
returns-in_err-push_tables-clause-names c =
    IfOk-from_err c.from_residual-in_err-push_tables.result _ c.from_residual-in_err-push_tables.ensures.0

pub returns-in_err-push_tables-clause-fit : goal.returns-in_err-push_tables-clause-fit
returns-in_err-push_tables-clause-fit c =
    IfOk-from_err c.from_residual-in_err-push_tables.result _ c.from_residual-in_err-push_tables.ensures.0
