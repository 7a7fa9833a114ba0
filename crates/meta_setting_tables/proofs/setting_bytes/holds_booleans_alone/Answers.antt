use Rattle.std.proofs.Common.{◌≡◌, ◌∙◌, ⊎_elim, refl, sym, subst, arith}
use Rattle.std.specs.Int.{bit_at}
use Rattle.std.proofs.lemmas.Bool.{cases_eq, false≢true}
use Rattle.meta_setting_tables.specs.WellFormed.{IsBooleanBit}
use Rattle.meta_setting_tables.proofs.setting_bytes.holds_booleans_alone.Goals as goal

pub loop-bit-init : goal.loop-bit-init
loop-bit-init c = λ k l. absurd (omega (arith, l))

pub returns-then-not-is_off_or_boolean : goal.returns-then-not-is_off_or_boolean
returns-then-not-is_off_or_boolean c = (
  λ t. absurd (false≢true t),
  λ h. absurd (false≢true (sym c.if-not-is_off_or_boolean.true
      ∙ c.is_off_or_boolean.ensures.1 (h.bits c.loop-bit.bit c.loop-bit-test.true))),
)

pub loop-bit-preserved : goal.loop-bit-preserved
loop-bit-preserved c = λ k l on.
    let shape = c.args.shape.now in
    ⊎_elim
    (λ same. subst (λ n. bit_at c.args.value n ≡ 1 → IsBooleanBit shape.own_bytes shape.booleans c.args.byte n) (sym same)
    (c.is_off_or_boolean.ensures.0 c.if-not-is_off_or_boolean.false) on)
    (λ other. c.loop-bit.invariant k (omega (arith, l, other)) on)
    (cases_eq k c.loop-bit.bit)

pub returns : goal.returns
returns c =
    let past = c.loop-bit-test.false in
    (λ t. record { fits = c.ranges.value.fits; bits = λ bit l. c.loop-bit.invariant bit (omega (arith, l, past)) }, λ h. refl)
