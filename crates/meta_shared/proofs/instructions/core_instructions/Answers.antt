use Rattle.std.proofs.Common.{◌∙◌, ◌++◌, [], arith, length, length-append, map, sym, ap, subst}
use Rattle.std.specs.List.{AllZip}
use Rattle.std.proofs.lemmas.List.{length-map}
use Rattle.std.proofs.lemmas.Result.{IfOk-from_err}
use Rattle.meta_shared.specs.CoreNames.{core_names}
use Rattle.meta_shared.specs.Roots.{AreRoots}
use Rattle.meta_shared.specs.Words.{Meanings, AreMeant}
use Rattle.meta_shared.proofs.Growing.{meant_grows}
use Rattle.meta_shared.specs.Rows.{builder_name, row_name, row_format, rows_in, FitsNames}
use Rattle.meta_shared.proofs.Fitting.{all_fit, none_fit, names_added}
use Rattle.meta_shared.proofs.instructions.core_instructions.Goals as goal

pub returns-clause-names : goal.returns-clause-names
returns-clause-names c = names_added c.in_ok-push_tables.ensures.rows
    ∙ (ap (λ xs. map builder_name xs ++ map row_name (rows_in c.core_tables.result)) c.requires.no_instruction
    ∙ c.core_tables.ensures.are_named)

pub returns-clause-count : goal.returns-clause-count
unfolding core_names
returns-clause-count c = sym (length-map c.push_tables.new.all builder_name) ∙ ap length (returns-clause-names c)

pub returns-clause-fit : goal.returns-clause-fit
returns-clause-fit c =
    let meant : AreMeant c.new.new.vars c.new-names.result =
    subst (AreMeant c.new.new.vars) (sym c.new-names.ensures) (record {
      immediates = c.requires.immediates;
      entities = c.requires.entities;
      roots = c.in_ok-roots.ensures.roots;
    }) in
    subst (λ formats. AllZip (FitsNames c.push_tables.new.vars c.args.formats.now) formats c.push_tables.new.all)
    c.core_tables.ensures.are_of
    (subst (λ f. AllZip (FitsNames c.push_tables.new.vars f) (map row_format (rows_in c.core_tables.result)) c.push_tables.new.all)
    (ap (λ (m : Meanings). m.formats) c.new-names.ensures)
    (all_fit [] c.in_ok-push_tables.ensures.grows meant c.in_ok-push_tables.ensures.rows
    (none_fit c.new.new.vars c.new-names.result.formats c.requires.no_instruction)))

pub push_tables-requires-clause-meant : goal.push_tables-requires-clause-meant
push_tables-requires-clause-meant c =
    subst (AreMeant c.new.new.vars) (sym c.new-names.ensures) (record {
      immediates = c.requires.immediates;
      entities = c.requires.entities;
      roots = c.in_ok-roots.ensures.roots;
    })

pub push_tables-requires-clause-room : goal.push_tables-requires-clause-room
push_tables-requires-clause-room c =
    let count = c.in_ok-roots.ensures.count in
    let derived = c.core_tables.ensures.are_derived in
    omega arith

pub push_tables-requires-clause-derivable : goal.push_tables-requires-clause-derivable
push_tables-requires-clause-derivable c = c.core_tables.ensures.derivable

pub returns-clause-roots : goal.returns-clause-roots
returns-clause-roots c =
    let meant : AreMeant c.new.new.vars c.new-names.result =
    subst (AreMeant c.new.new.vars) (sym c.new-names.ensures) (record {
      immediates = c.requires.immediates;
      entities = c.requires.entities;
      roots = c.in_ok-roots.ensures.roots;
    }) in
    let grown : AreMeant c.push_tables.new.vars c.new-names.result = meant_grows c.in_ok-push_tables.ensures.grows meant in
    subst (AreRoots c.push_tables.new.vars) (ap (λ (m : Meanings). m.roots) c.new-names.ensures) grown.roots

pub returns-clause-numbers : goal.returns-clause-numbers
returns-clause-numbers c = c.in_ok-roots.ensures.numbers

pub returns-clause-few : goal.returns-clause-few
returns-clause-few c =
    let grows = c.in_ok-push_tables.ensures.grows in
    let count = c.in_ok-roots.ensures.count in
    let derived = c.core_tables.ensures.are_derived in
    omega (arith, ap length grows.is, length-append c.new.new.vars grows.more, grows.few)

pub returns-in_err-roots-clause-roots : goal.returns-in_err-roots-clause-roots
returns-in_err-roots-clause-roots c = IfOk-from_err c.from_residual.result _ c.from_residual.ensures.0

pub returns-in_err-roots-clause-numbers : goal.returns-in_err-roots-clause-numbers
returns-in_err-roots-clause-numbers c = IfOk-from_err c.from_residual.result _ c.from_residual.ensures.0

pub returns-in_err-roots-clause-few : goal.returns-in_err-roots-clause-few
returns-in_err-roots-clause-few c = IfOk-from_err c.from_residual.result _ c.from_residual.ensures.0

pub returns-in_err-roots-clause-names : goal.returns-in_err-roots-clause-names
returns-in_err-roots-clause-names c = IfOk-from_err c.from_residual.result _ c.from_residual.ensures.0

pub returns-in_err-roots-clause-count : goal.returns-in_err-roots-clause-count
returns-in_err-roots-clause-count c = IfOk-from_err c.from_residual.result _ c.from_residual.ensures.0

pub returns-in_err-roots-clause-fit : goal.returns-in_err-roots-clause-fit
returns-in_err-roots-clause-fit c = IfOk-from_err c.from_residual.result _ c.from_residual.ensures.0

pub returns-in_err-push_tables-clause-roots : goal.returns-in_err-push_tables-clause-roots
returns-in_err-push_tables-clause-roots c =
    IfOk-from_err c.from_residual-in_err-push_tables.result _ c.from_residual-in_err-push_tables.ensures.0

pub returns-in_err-push_tables-clause-numbers : goal.returns-in_err-push_tables-clause-numbers
returns-in_err-push_tables-clause-numbers c =
    IfOk-from_err c.from_residual-in_err-push_tables.result _ c.from_residual-in_err-push_tables.ensures.0

pub returns-in_err-push_tables-clause-few : goal.returns-in_err-push_tables-clause-few
returns-in_err-push_tables-clause-few c =
    IfOk-from_err c.from_residual-in_err-push_tables.result _ c.from_residual-in_err-push_tables.ensures.0

pub returns-in_err-push_tables-clause-names : goal.returns-in_err-push_tables-clause-names
returns-in_err-push_tables-clause-names c =
    IfOk-from_err c.from_residual-in_err-push_tables.result _ c.from_residual-in_err-push_tables.ensures.0

pub returns-in_err-push_tables-clause-count : goal.returns-in_err-push_tables-clause-count
returns-in_err-push_tables-clause-count c =
    IfOk-from_err c.from_residual-in_err-push_tables.result _ c.from_residual-in_err-push_tables.ensures.0

pub returns-in_err-push_tables-clause-fit : goal.returns-in_err-push_tables-clause-fit
returns-in_err-push_tables-clause-fit c =
    IfOk-from_err c.from_residual-in_err-push_tables.result _ c.from_residual-in_err-push_tables.ensures.0
