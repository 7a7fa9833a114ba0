use Rattle.std.proofs.Common.{length, refl, sym, ◌∙◌, arith}
use Rattle.std.proofs.lemmas.Bool.{false≢true}
use Rattle.std.proofs.lemmas.Option.{slice_get_read, slice_get_within}
use Rattle.meta_lists.proofs.Everywhere.{everywhere, at_place, one_place_more}
use Rattle.meta_setting_tables.specs.declared.descriptor.Descriptor.{Descriptor}
use Rattle.meta_setting_tables.specs.WellFormed.{HasItsValues}
use Rattle.meta_setting_tables.proofs.entries.have_their_values.Goals as goal

pub loop-entry-init : goal.loop-entry-init
loop-entry-init c = λ k d l. absurd (omega (arith, l))

pub returns-then-not-branch : goal.returns-then-not-branch
returns-then-not-branch c =
    let entries = c.args.entries.now in
    let at = slice_get_read entries (length entries) c.loop-entry.entry-index c.entry-item.result refl c.loop-entry-test.true
    c.entry-item.is in (
      λ t. absurd (false≢true t),
      λ all. absurd (false≢true (sym c.if-not-branch.true
          ∙ c.in_ok-has_its_values.ensures.1 (at_place (λ (d : Descriptor). HasItsValues c.args.enumerators.now d.detail) entries
          c.loop-entry.entry-index c.entry-item.result all at))),
    )

pub loop-entry-preserved : goal.loop-entry-preserved
loop-entry-preserved c =
    let entries = c.args.entries.now in
    let at =
    slice_get_read entries (length entries) c.loop-entry.entry-index c.entry-item.result refl c.loop-entry-test.true c.entry-item.is in
    one_place_more (λ k (d : Descriptor). HasItsValues c.args.enumerators.now d.detail) entries c.loop-entry.entry-index
    c.entry-item.result at (c.in_ok-has_its_values.ensures.0 c.if-not-branch.false) c.loop-entry.invariant

pub returns : goal.returns
returns c =
    let past = c.loop-entry-test.false in (
      λ t. everywhere c.args.entries.now (λ k d at. c.loop-entry.invariant k d (let l = slice_get_within c.args.entries.now k d at
          in omega (arith, l, past)) at),
      λ all. refl,
    )
