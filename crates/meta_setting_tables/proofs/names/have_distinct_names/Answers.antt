use Rattle.std.proofs.Common.{◌≡◌, ℕ, ◌<◌, List, refl, slice_index_or, length, arith, slice_get, Some}
use Rattle.std.proofs.lemmas.Option.{slice_get_read}
use Rattle.std.proofs.lemmas.List.{length-map}
use Rattle.meta_lists.proofs.Mapped.{get_map}
use Rattle.meta_lists.proofs.Options.{told_some, told_none}
use Rattle.meta_types.proofs.NamesSoFar.{none_kept, one_kept, not_distinct, all_kept}
use Rattle.meta_setting_tables.specs.declared.descriptor.Descriptor.{Descriptor}
use Rattle.meta_setting_tables.specs.GroupTables.{names_in}
use Rattle.meta_setting_tables.proofs.names.have_distinct_names.Goals as goal

-- the name of the entry that was read
read : (entries : List Descriptor) (k : ℕ) (entry : Descriptor) → k < length entries
    → entry ≡ slice_index_or entries k entry → slice_get (names_in entries) k ≡ Some entry.name
read entries k entry l is = get_map (λ (d : Descriptor). d.name) entries k entry (slice_get_read entries (length entries) k entry refl l is)

pub loop-entry-init : goal.loop-entry-init
loop-entry-init c = none_kept (names_in c.args.entries.now) _ c.new-earlier.ensures

pub returns-then-is_some : goal.returns-then-is_some
returns-then-is_some c =
    let names = names_in c.args.entries.now in
    let k = c.loop-entry.entry-index in
    let at = read c.args.entries.now k c.entry-item.result c.loop-entry-test.true c.entry-item.is in
    let (j, shared) = told_some _ _ c.if-is_some.ensures c.in_ok-add.ensures.shared in
    not_distinct names k _ at _ c.loop-entry.invariant j shared

pub loop-entry-preserved : goal.loop-entry-preserved
loop-entry-preserved c =
    let names = names_in c.args.entries.now in
    let k = c.loop-entry.entry-index in
    let at = read c.args.entries.now k c.entry-item.result c.loop-entry-test.true c.entry-item.is in
    one_kept names k _ at _ c.loop-entry.invariant _ (told_none _ _ c.if-is_some.ensures c.in_ok-add.ensures.added)
    (told_none _ _ c.if-is_some.ensures c.in_ok-add.ensures.unshared)

pub returns : goal.returns
returns c =
    let past = c.loop-entry-test.false in
    let long = length-map c.args.entries.now (λ (d : Descriptor). d.name) in
    all_kept (names_in c.args.entries.now) c.loop-entry.entry-index _ c.loop-entry.invariant (omega (arith, past, long))
