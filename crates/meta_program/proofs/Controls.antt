-- A plain text has no control character.
use Rattle.std.proofs.Common.{◌≡◌, ◌∙◌, ◌<◌, ◌≤◌, ◌&&◌, ◌||◌, ℕ, suc, Bool, true, false, List, [], ◌∷◌, refl, ap, arith}
use Rattle.std.specs.Prelude.{◌==◌, nat_le, nat_lt}
use Rattle.std.proofs.lemmas.Bool.Decides.{nat_tests}
use Rattle.meta_command_line.specs.Usage.{IsPlain}
use Rattle.meta_program.specs.ShownPath.{ends_control, has_control_after, has_control}

not_low : (byte : ℕ) → 32 ≤ byte → nat_lt byte 32 ≡ false
not_low byte least = grind (arith, nat_tests)

not_last : (byte : ℕ) → byte < 127 → (byte == 127) ≡ false
not_last byte most = grind (arith, nat_tests)

not_late : (byte : ℕ) → byte < 127 → nat_le 128 byte ≡ false
not_late byte most = grind (arith, nat_tests)

and_never : (t : Bool) → (t && false) ≡ false
and_never true = refl
and_never false = refl

plain_byte : (before byte : ℕ) → (32 ≤ byte) × (byte < 127) → ends_control before byte ≡ false
plain_byte before byte h =
    ap (λ (t : Bool). t || ((byte == 127) || ((before == 194) && (nat_le 128 byte && nat_lt byte 160)))) (not_low byte h.0)
    ∙ ap (λ (t : Bool). t || ((before == 194) && (nat_le 128 byte && nat_lt byte 160))) (not_last byte h.1)
    ∙ ap (λ (t : Bool). (before == 194) && (t && nat_lt byte 160)) (not_late byte h.1)
    ∙ and_never (before == 194)

plain_after : (before : ℕ) (text : List ℕ) → IsPlain text → has_control_after before text ≡ false
plain_after before [] plain = refl
plain_after before (byte ∷ text) plain =
    ap (λ (t : Bool). t || has_control_after byte text) (plain_byte before byte (plain 0 byte refl))
    ∙ plain_after byte text (λ k other at. plain (suc k) other at)

pub plain_has_none : (text : List ℕ) → IsPlain text → has_control text ≡ false
plain_has_none text plain = plain_after 0 text plain
