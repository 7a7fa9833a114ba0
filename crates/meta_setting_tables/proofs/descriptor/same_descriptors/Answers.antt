use Rattle.std.proofs.Common.{◌≡◌, ◌∙◌, List, length, slice_get, Some, refl, sym, ap, subst, ⊎_elim, arith}
use Rattle.std.proofs.lemmas.Bool.{cases_eq, false≢true}
use Rattle.std.proofs.lemmas.Option.{same_Some, slice_get_read}
use Rattle.meta_lists.proofs.Places.{same_places}
use Rattle.meta_setting_tables.specs.declared.descriptor.Descriptor.{Descriptor}
use Rattle.meta_setting_tables.proofs.descriptor.same_descriptors.Goals as goal

pub returns-then-one-other : goal.returns-then-one-other
returns-then-one-other c = (λ t. absurd (false≢true t), λ e. absurd (c.if-one-other.true (ap length e)))

pub loop-k-init : goal.loop-k-init
loop-k-init c = λ j l. absurd (omega (arith, l))

pub returns-then-not-same : goal.returns-then-not-same
returns-then-not-same c =
    let one = slice_get_read c.args.one.now (length c.args.one.now) c.loop-k.k c.index-one-k.result refl
    c.loop-k-test.true c.index-one-k.is in
    let other = slice_get_read c.args.other.now (length c.args.one.now) c.loop-k.k c.index-other-k.result
    c.if-one-other.false c.loop-k-test.true c.index-other-k.is in (
      λ t. absurd (false≢true t),
      λ e. absurd (false≢true (sym c.if-not-same.true
          ∙ c.same.ensures.1 (same_Some _ _ (sym one ∙ ap (λ (w : List Descriptor). slice_get w c.loop-k.k) e ∙ other)))),
    )

pub loop-k-preserved : goal.loop-k-preserved
loop-k-preserved c = λ j l.
    let one = slice_get_read c.args.one.now (length c.args.one.now) c.loop-k.k c.index-one-k.result refl
    c.loop-k-test.true c.index-one-k.is in
    let other = slice_get_read c.args.other.now (length c.args.one.now) c.loop-k.k c.index-other-k.result
    c.if-one-other.false c.loop-k-test.true c.index-other-k.is in
    let same = one ∙ ap Some (c.same.ensures.0 c.if-not-same.false) ∙ sym other in
    ⊎_elim
    (λ here. subst (λ n. slice_get c.args.one.now n ≡ slice_get c.args.other.now n) (sym here) same)
    (λ before. c.loop-k.invariant j (omega (arith, l, before)))
    (cases_eq j c.loop-k.k)

pub returns : goal.returns
returns c =
    let long = c.if-one-other.false in
    let past = c.loop-k-test.false in
    let end = c.loop-k.auto.k-end in
    (λ t. same_places c.args.one.now c.args.other.now (omega arith) (λ j l. c.loop-k.invariant j (omega (arith, l, past, end))), λ e. refl)
