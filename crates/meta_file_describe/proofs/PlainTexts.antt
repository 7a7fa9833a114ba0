-- Names, and descriptions that need no escape, are ASCII, and such a description is one line.
use Rattle.std.proofs.Common.{◌≡◌, ℕ, ◌<◌, Bool, true, false, cond, List, [], ◌∷◌, All, map, inl, refl, ap, arith}
use Rattle.std.specs.Prelude.{◌==◌}
use Rattle.std.specs.Str.{IsUtf8}
use Rattle.std.proofs.lemmas.Bool.Decides.{nat_tests}
use Rattle.std.proofs.lemmas.List.Elements.{All-cons, All-head, All-tail, All-weaker}
use Rattle.std.proofs.lemmas.Str.{IsUtf8-from_ascii}
use Rattle.std.proofs.lemmas.Str.Ascii.{IsAscii-from_all}
use Rattle.meta_types.specs.Name.{IsNameByte, IsName}
use Rattle.meta_file_syntax.specs.Laid.{AreLineBytes}
use Rattle.meta_file_syntax.specs.Named.{name_bytes}
use Rattle.meta_settings.specs.GroupFaults.{IsPlainByte}
use Rattle.meta_file_describe.specs.Wording.{name_for, with_first, lines_between}
use Rattle.meta_file_describe.proofs.Wording.{name_said}

-- ---- names

-- names say again what they are made of
pub names_said : (ws : List (List ℕ)) → map name_bytes (map name_for ws) ≡ ws
names_said [] = refl
names_said (w ∷ ws) = λ i. name_said w i ∷ names_said ws i

-- ---- texts of ASCII

text_by : (P : ℕ → Type 0) → ((c : ℕ) → P c → c < 128) → (text : List ℕ) → All P text → IsUtf8 text
text_by P small text all = IsUtf8-from_ascii text (IsAscii-from_all text (All-weaker P (λ c. c < 128) small text all))

byte_small : (c : ℕ) → IsNameByte c → c < 128
byte_small c is = grind arith

-- a name is UTF-8
pub name_utf8 : (w : List ℕ) → IsName w → IsUtf8 w
name_utf8 [] is = absurd is
name_utf8 (c ∷ cs) is = text_by IsNameByte byte_small (c ∷ cs) (All-cons IsNameByte c cs (inl is.0) is.1)

plain_small : (c : ℕ) → IsPlainByte c → c < 128
plain_small c is = let most = is.most in omega arith

-- so is a description that needs no escape
pub plain_utf8 : (text : List ℕ) → All IsPlainByte text → IsUtf8 text
plain_utf8 text all = text_by IsPlainByte plain_small text all

-- ---- and it is one line

plain_other : (c : ℕ) → IsPlainByte c → (c == 10) ≡ false
plain_other c is = let least = is.least in grind (arith, nat_tests)

line_by : (c : ℕ) (cs : List ℕ) (b : Bool) → b ≡ false → lines_between cs ≡ cs ∷ []
    → cond b ([] ∷ lines_between cs) (with_first c (lines_between cs)) ≡ (c ∷ cs) ∷ []
line_by c cs true other below = absurd cc
line_by c cs false other below = ap (with_first c) below

pub plain_lines : (text : List ℕ) → All IsPlainByte text → lines_between text ≡ text ∷ []
plain_lines [] all = refl
plain_lines (c ∷ cs) all =
    line_by c cs (c == 10) (plain_other c (All-head IsPlainByte c cs all)) (plain_lines cs (All-tail IsPlainByte c cs all))

pub plain_line_bytes : (text : List ℕ) → All IsPlainByte text → AreLineBytes text
plain_line_bytes [] all = tt
plain_line_bytes (c ∷ cs) all =
    (plain_other c (All-head IsPlainByte c cs all), plain_line_bytes cs (All-tail IsPlainByte c cs all))
