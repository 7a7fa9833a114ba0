use Rattle.std.proofs.Common.{◌≡◌, sym, ap, ◌∙◌, subst}
use Rattle.std.proofs.lemmas.Result.{IfOk-weaker}
use Rattle.meta_table_text.specs.Fits.{Fits}
use Rattle.meta_table_text.specs.TableText.{table_text}
use Rattle.meta_table_reader.specs.Readable.{IsReadIn}
use Rattle.meta_table_reader.proofs.ReadIn.{some_of, none_of}
use Rattle.meta_table_reader.proofs.ShownTables.{tables_shown}
use Rattle.meta_table_reader.proofs.reading.read_in.Goals as goal

pub returns-in-Some-clause-some : goal.returns-in-Some-clause-some
returns-in-Some-clause-some c =
    let good = rw c.in-Some.is at c.in_ok-tables.ensures.well_formed in
    IfOk-weaker c.accepted.result _ _
    (λ o is. some_of _ (IsReadIn c.args.version c.args.text.now)
    (λ t (same, fits, is_text). subst (IsReadIn c.args.version c.args.text.now) (sym same)
    (record { well_formed = good; fits = fits; is_text = is_text })) o is)
    c.accepted.ensures.some

pub returns-in-Some-clause-none : goal.returns-in-Some-clause-none
returns-in-Some-clause-none c =
    let good = rw c.in-Some.is at c.in_ok-tables.ensures.well_formed in
    let have = rw c.in-Some.is at c.in_ok-tables.ensures.some in
    IfOk-weaker c.accepted.result _ _
    (λ o none. none_of o
    (λ refused t is.
    let have_too = c.in_ok-parts.ensures t (tables_shown c.args.version t is.well_formed is.fits) is.is_text in
    let same : t ≡ c.in-Some.tables =
    c.one_table_has_all_parts.ensures c.in_ok-parts.parts t c.in-Some.tables is.well_formed good have_too have in
    refused (subst (Fits c.args.version) same is.fits) (is.is_text ∙ ap (table_text c.args.version) same))
    none)
    c.accepted.ensures.none

pub returns-in-None-clause-none : goal.returns-in-None-clause-none
returns-in-None-clause-none c =
    let none = rw c.in-None.is at c.in_ok-tables.ensures.none in
    λ t is. none t is.well_formed (c.in_ok-parts.ensures t (tables_shown c.args.version t is.well_formed is.fits) is.is_text)
