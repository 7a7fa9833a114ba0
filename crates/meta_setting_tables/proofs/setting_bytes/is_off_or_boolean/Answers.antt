use Rattle.std.proofs.Common.{◌≡◌, ◌∙◌, refl, sym, arith}
use Rattle.std.specs.Int.{bit_at}
use Rattle.std.proofs.lemmas.Nat.Bits.{bit_at-lt, shr_and_one}
use Rattle.meta_setting_tables.proofs.setting_bytes.is_off_or_boolean.Goals as goal

pub returns-then-value-bit-eq0 : goal.returns-then-value-bit-eq0
returns-then-value-bit-eq0 c = (
  λ t on. absurd (let both : 0 ≡ 1 = sym c.if-value-bit-eq0.true ∙ shr_and_one c.args.value c.args.bit ∙ on in omega arith),
  λ h. refl,
)

pub returns : goal.returns
returns c =
    let small = bit_at-lt c.args.value c.args.bit in
    let not_off = c.if-value-bit-eq0.false in
    let same = shr_and_one c.args.value c.args.bit in
    let on : bit_at c.args.value c.args.bit ≡ 1 = omega arith in
    (λ t on. c.is_boolean_bit.ensures.0 t, λ h. c.is_boolean_bit.ensures.1 (h on))
