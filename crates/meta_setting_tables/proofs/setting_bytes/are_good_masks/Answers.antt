use Rattle.std.proofs.Common.{◌∙◌, ◌<◌, ◌%◌, refl, sym, arith}
use Rattle.std.proofs.lemmas.Bool.{false≢true}
use Rattle.std.proofs.lemmas.Option.{slice_get-get_or, slice_get_within}
use Rattle.meta_lists.proofs.Everywhere.{one_place_more}
use Rattle.meta_setting_tables.specs.WellFormed.{HoldsBooleansAlone}
use Rattle.meta_setting_tables.proofs.Counted.{mask_part, mask_whole, masks_counted}
use Rattle.meta_setting_tables.proofs.setting_bytes.are_good_masks.Goals as goal

pub returns-then-not-holds_booleans_alone : goal.returns-then-not-holds_booleans_alone
returns-then-not-holds_booleans_alone c =
    let shape = c.args.shape.now in
    let masks = c.args.masks.now in
    let some : 0 < shape.bytes = (let n = c.if-shape-eq0.false in omega (arith, n)) in
    let at = slice_get-get_or masks c.loop-at.at 0 c.loop-at-test.true in
    let both = masks_counted c.args.entries.now shape c.requires.shape masks c.if-masks-shape.false in (
      λ t. absurd (false≢true t),
      λ good. absurd (false≢true (sym c.if-not-holds_booleans_alone.true ∙ c.holds_booleans_alone.ensures.1
          (mask_part shape.own_bytes shape.booleans shape.bytes c.loop-at.at _ masks some at (both.1 good)))),
    )

pub loop-at-preserved : goal.loop-at-preserved
loop-at-preserved c =
    let shape = c.args.shape.now in
    one_place_more (λ k m. HoldsBooleansAlone shape.own_bytes shape.booleans (k % shape.bytes) m) c.args.masks.now
    c.loop-at.at _ (slice_get-get_or c.args.masks.now c.loop-at.at 0 c.loop-at-test.true)
    (c.holds_booleans_alone.ensures.0 c.if-not-holds_booleans_alone.false) c.loop-at.invariant

pub returns-then-shape-eq0 : goal.returns-then-shape-eq0
returns-then-shape-eq0 c =
    let none = c.if-shape-eq0.true in (
      λ t. (masks_counted c.args.entries.now c.args.shape.now c.requires.shape c.args.masks.now c.if-masks-shape.false).0
          (λ k byte m l at. absurd (omega (arith, l, none))),
      λ good. refl,
    )

pub returns : goal.returns
returns c =
    let shape = c.args.shape.now in
    let past = c.loop-at-test.false in
    let both = masks_counted c.args.entries.now shape c.requires.shape c.args.masks.now c.if-masks-shape.false in (
      λ t. both.0 (mask_whole shape.own_bytes shape.booleans shape.bytes c.args.masks.now
          (λ i m at. c.loop-at.invariant i m (let l = slice_get_within c.args.masks.now i m at in omega (arith, l, past)) at)),
      λ good. refl,
    )
