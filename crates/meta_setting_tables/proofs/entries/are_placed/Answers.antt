use Rattle.std.proofs.Common.{◌≡◌, ◌∙◌, ◌<◌, ℕ, List, length, slice_get, get_or, Some, refl, sym, arith}
use Rattle.std.proofs.lemmas.Bool.{false≢true}
use Rattle.std.proofs.lemmas.Option.{slice_get_read, slice_get_within}
use Rattle.meta_lists.proofs.Everywhere.{one_place_more}
use Rattle.meta_setting_tables.specs.declared.descriptor.Descriptor.{Descriptor}
use Rattle.meta_setting_tables.specs.WellFormed.{IsPlaced}
use Rattle.meta_setting_tables.proofs.Counted.{place_counted}
use Rattle.meta_setting_tables.proofs.entries.are_placed.Goals as goal

-- the entry that was read
read : (entries : List Descriptor) (k : ℕ) (entry : Descriptor) → k < length entries → entry ≡ get_or entries k entry
    → slice_get entries k ≡ Some entry
read entries k entry l is = slice_get_read entries (length entries) k entry refl l is

pub returns-then-not-is_placed : goal.returns-then-not-is_placed
returns-then-not-is_placed c =
    let d = c.index-entries-place.result in
    let at = read c.args.entries.now c.loop-place.place d c.loop-place-test.true c.index-entries-place.is in (
      λ t. absurd (false≢true t),
      λ placed. absurd (false≢true (sym c.if-not-is_placed.true
          ∙ c.is_placed.ensures.1 ((place_counted c.args.entries.now c.args.shape.now c.requires.shape c.loop-place.place d.offset
          d.detail).1 (placed c.loop-place.place d at)))),
    )

pub loop-place-preserved : goal.loop-place-preserved
loop-place-preserved c =
    let at = read c.args.entries.now c.loop-place.place c.index-entries-place.result c.loop-place-test.true c.index-entries-place.is in
    one_place_more (λ e (d : Descriptor). IsPlaced c.args.shape.now.own_bytes c.args.shape.now.booleans c.args.shape.now.bytes e d.offset
    d.detail) c.args.entries.now c.loop-place.place c.index-entries-place.result at
    (c.is_placed.ensures.0 c.if-not-is_placed.false) c.loop-place.invariant

pub returns : goal.returns
returns c =
    let past = c.loop-place-test.false in (
      λ t e d at. (place_counted c.args.entries.now c.args.shape.now c.requires.shape e d.offset d.detail).0
          (c.loop-place.invariant e d (let l = slice_get_within c.args.entries.now e d at in omega (arith, l, past)) at),
      λ h. refl,
    )
