use Rattle.std.proofs.Common.{◌<◌, ◌≤◌, ◌↔◌, ℕ, List, All, IsTrue, length, get_or, refl, sym, subst, ◌∙◌, arith, rules}
use Rattle.std.proofs.lemmas.Bool.{false≢true}
use Rattle.std.proofs.lemmas.Option.{slice_get-get_or, slice_get_within, get_or_from_slice_get}
use Rattle.meta_lists.proofs.Everywhere.{one_place_more}
use Rattle.meta_setting_tables.specs.declared.descriptor.Descriptor.{Descriptor}
use Rattle.meta_setting_tables.specs.WellFormed.{HoldsBooleansAlone, HasFirstValue}
use Rattle.meta_setting_tables.proofs.Counted.{defaults_counted}
use Rattle.meta_setting_tables.proofs.setting_bytes.are_good_defaults.Goals as goal

bytes_below : (xs : List ℕ) → ((k : ℕ) → k < length xs → get_or xs k 0 < 256) → All (λ b. b < 256) xs
bytes_below xs fits =
    λ k d l. subst (λ b. b < 256) (sym (get_or_from_slice_get xs k (get_or xs k 0) d (slice_get-get_or xs k 0 l))) (fits k l)

pub loop-byte-init : goal.loop-byte-init
loop-byte-init c = λ k b low below at. absurd (omega (arith, low, below))

pub loop-byte-preserved : goal.loop-byte-preserved
loop-byte-preserved c = λ k b low below there.
    let shape = c.args.shape.now in
    one_place_more
    (λ k m. shape.own_bytes ≤ k → HoldsBooleansAlone shape.own_bytes shape.booleans k m) c.args.defaults.now c.loop-byte.byte _
    (slice_get-get_or c.args.defaults.now c.loop-byte.byte 0 c.loop-byte-test.true)
    (λ low. c.holds_booleans_alone.ensures.0 c.if-not-holds_booleans_alone.false)
    (λ j m early at low. c.loop-byte.invariant j m low early at) k b below there low

pub returns-then-defaults-shape : goal.returns-then-defaults-shape
returns-then-defaults-shape c =
    (λ t. absurd (false≢true t), λ good. absurd (c.if-defaults-shape.true (good.count ∙ sym c.requires.shape.bytes)))

pub returns-then-not-all : goal.returns-then-not-all
returns-then-not-all c =
    let defaults = c.args.defaults.now in
    let first : IsTrue c.all.result ↔ All (λ (d : Descriptor). HasFirstValue defaults d.offset d.detail) c.args.entries.now =
    search rules in
    (λ t. absurd (false≢true t), λ good. absurd (false≢true (sym c.if-not-all.true ∙ first.1 good.enums)))

pub returns-then-not-holds_booleans_alone : goal.returns-then-not-holds_booleans_alone
returns-then-not-holds_booleans_alone c =
    let defaults = c.args.defaults.now in
    let first : IsTrue c.all.result ↔ All (λ (d : Descriptor). HasFirstValue defaults d.offset d.detail) c.args.entries.now =
    search rules in
    let at = slice_get-get_or defaults c.loop-byte.byte 0 c.loop-byte-test.true in (
      λ t. absurd (false≢true t),
      λ good.
          let both = defaults_counted c.args.entries.now c.args.shape.now c.requires.shape defaults c.if-defaults-shape.false
          good.bytes (first.0 c.if-not-all.false) in
          absurd (false≢true (sym c.if-not-holds_booleans_alone.true ∙ c.holds_booleans_alone.ensures.1
          (both.1 good c.loop-byte.byte _ c.loop-byte.auto.byte at))),
    )

pub returns : goal.returns
returns c =
    let defaults = c.args.defaults.now in
    let first : IsTrue c.all.result ↔ All (λ (d : Descriptor). HasFirstValue defaults d.offset d.detail) c.args.entries.now =
    search rules in
    let fit = bytes_below defaults (λ k l. (c.type_inv.defaults k).fits) in
    let both = defaults_counted c.args.entries.now c.args.shape.now c.requires.shape defaults c.if-defaults-shape.false fit
    (first.0 c.if-not-all.false) in
    let past = c.loop-byte-test.false in (
      λ t. both.0 (λ byte b low at. c.loop-byte.invariant byte b low
          (let l = slice_get_within defaults byte b at in omega (arith, l, past)) at),
      λ good. refl,
    )
