-- Bytes that are plain: of a word, of its escapes, and of the texts of a line.
use Rattle.std.proofs.Common.{◌≡◌, ℕ, zero, suc, ◌+◌, ◌/◌, ◌%◌, ◌<◌, ◌≤◌, ◌&&◌, Bool, true, false, cond, ⊎_elim, List, [], ◌∷◌, ◌++◌}
use Rattle.std.proofs.Common.{length, get_or, slice_get, Some, flat_map, encode_utf8, encode_utf8_all, refl, sym, subst, ap, ◌∙◌}
use Rattle.std.proofs.Common.{append_assoc, append-nil, arith}
use Rattle.std.specs.Prelude.{nat_le, nat_lt, ◌==◌}
use Rattle.std.specs.Char.{digit_char}
use Rattle.std.specs.Char.Escape.{escape_ascii, short_escape, hex_digit_at}
use Rattle.std.specs.List.{list_all}
use Rattle.std.proofs.lemmas.Bool.{cases_lt, and_parts}
use Rattle.std.proofs.lemmas.Bool.Decides.{nat_tests}
use Rattle.std.proofs.lemmas.Option.{same_Some, slice_get-get_or, slice_get_within}
use Rattle.std.proofs.lemmas.Str.{encode_ascii}
use Rattle.meta_command_line.specs.Usage.{IsPlain}

-- the byte is a letter, a digit, a mark or a space
abbrev pub IsPlainByte : ℕ → Type 0
IsPlainByte byte = (32 ≤ byte) × (byte < 127)

-- a byte of a plain word is
pub plain_at : (bytes word : List ℕ) (k : ℕ) → bytes ≡ word → IsPlain word → k < length bytes → IsPlainByte (get_or bytes k 0)
plain_at bytes word k same plain within =
    plain k (get_or bytes k 0) (subst (λ (xs : List ℕ). slice_get xs k ≡ Some (get_or bytes k 0)) same (slice_get-get_or bytes k 0 within))

-- each byte before this place is
abbrev pub IsPlainTo : ℕ → List ℕ → Type 0
IsPlainTo place word = (k byte : ℕ) → k < place → slice_get word k ≡ Some byte → IsPlainByte byte

pub plain_more : (bytes word : List ℕ) (k : ℕ) → bytes ≡ word → k < length bytes → IsPlainByte (get_or bytes k 0) → IsPlainTo k word
    → IsPlainTo (k + 1) word
plain_more bytes word k same within here before j byte below at = ⊎_elim
    (λ l. before j byte l at)
    (λ l.
    let place : j ≡ k = omega (arith, l, below) in
    let stands : slice_get word k ≡ Some (get_or bytes k 0) =
    subst (λ (xs : List ℕ). slice_get xs k ≡ Some (get_or bytes k 0)) same (slice_get-get_or bytes k 0 within) in
    let is : get_or bytes k 0 ≡ byte = same_Some _ _ (sym stands ∙ subst (λ n. slice_get word n ≡ Some byte) place at) in
    subst IsPlainByte is here)
    (cases_lt j k)

pub plain_all : (bytes word : List ℕ) (k : ℕ) → bytes ≡ word → length bytes ≤ k → IsPlainTo k word → IsPlain word
plain_all bytes word k same past before j byte at =
    let within : j < length word = slice_get_within word j byte at in
    let count : length bytes ≡ length word = ap length same in
    before j byte (omega arith) at

-- ---- lists

pub plain_nil : IsPlain []
plain_nil k byte at = absurd (cc)

pub plain_cons : (x : ℕ) (xs : List ℕ) → IsPlainByte x → IsPlain xs → IsPlain (x ∷ xs)
plain_cons x xs here others zero byte at = subst IsPlainByte (same_Some _ _ at) here
plain_cons x xs here others (suc k) byte at = others k byte at

pub plain_first : (x : ℕ) (xs : List ℕ) → IsPlain (x ∷ xs) → IsPlainByte x
plain_first x xs all = all 0 x refl

pub plain_tail : (x : ℕ) (xs : List ℕ) → IsPlain (x ∷ xs) → IsPlain xs
plain_tail x xs all k byte at = all (suc k) byte at

pub plain_append : (xs ys : List ℕ) → IsPlain xs → IsPlain ys → IsPlain (xs ++ ys)
plain_append [] ys front back = back
plain_append (x ∷ xs) ys front back = plain_cons x (xs ++ ys) (plain_first x xs front) (plain_append xs ys (plain_tail x xs front) back)

pub plain_flat_map : {A : Type 0} (f : A → List ℕ) (xs : List A) → ((k : ℕ) (x : A) → slice_get xs k ≡ Some x → IsPlain (f x))
    → IsPlain (flat_map f xs)
plain_flat_map f [] each = plain_nil
plain_flat_map f (x ∷ xs) each = plain_append (f x) (flat_map f xs) (each 0 x refl) (plain_flat_map f xs (λ k y at. each (suc k) y at))

-- a text that is written out
abbrev pub is_plain_byte : ℕ → Bool
is_plain_byte byte = nat_le 32 byte && nat_lt byte 127

plain_byte_from : (x : ℕ) → is_plain_byte x ≡ true → IsPlainByte x
plain_byte_from x e = grind (arith, nat_tests)

pub plain_from : (xs : List ℕ) → list_all is_plain_byte xs ≡ true → IsPlain xs
plain_from [] e = plain_nil
plain_from (x ∷ xs) e =
    let both = and_parts (is_plain_byte x) (list_all is_plain_byte xs) e in
    plain_cons x xs (plain_byte_from x both.0) (plain_from xs both.1)

-- plain bytes are their own characters
pub encoded_plain : (xs : List ℕ) → IsPlain xs → encode_utf8_all xs ≡ xs
encoded_plain [] all = refl
encoded_plain (x ∷ xs) all =
    let here = plain_first x xs all in
    ap (λ (front : List ℕ). front ++ encode_utf8_all xs) (encode_ascii x (omega (arith, here.1)))
    ∙ ap (λ (back : List ℕ). x ∷ back) (encoded_plain xs (plain_tail x xs all))

-- ---- escapes

one_of : (P : ℕ → Type 0) (t : Bool) (x y : ℕ) → P x → P y → P (cond t x y)
one_of P true x y p q = p
one_of P false x y p q = q

of_cond : (t : Bool) (xs ys : List ℕ) → (t ≡ true → IsPlain xs) → (t ≡ false → IsPlain ys) → IsPlain (cond t xs ys)
of_cond true xs ys p q = p refl
of_cond false xs ys p q = q refl

-- nothing, or a plain byte
abbrev NoneOrPlain : ℕ → Type 0
NoneOrPlain n = 0 < n → IsPlainByte n

short_plain : (b : ℕ) → NoneOrPlain (short_escape b)
short_plain b =
    one_of NoneOrPlain (b == 9) 116 _ (λ l. (omega arith, omega arith))
    (one_of NoneOrPlain (b == 13) 114 _ (λ l. (omega arith, omega arith))
    (one_of NoneOrPlain (b == 10) 110 _ (λ l. (omega arith, omega arith))
    (one_of NoneOrPlain (b == 39) 39 _ (λ l. (omega arith, omega arith))
    (one_of NoneOrPlain (b == 34) 34 _ (λ l. (omega arith, omega arith))
    (one_of NoneOrPlain (b == 92) 92 0 (λ l. (omega arith, omega arith)) (λ l. absurd (omega (arith, l))))))))

digit_plain : (n : ℕ) → n < 16 → IsPlainByte (digit_char n)
digit_plain n few = grind (arith, nat_tests)

two_plain : (x y : ℕ) → IsPlainByte x → IsPlainByte y → IsPlain (x ∷ y ∷ [])
two_plain x y p q = plain_cons x (y ∷ []) p (plain_cons y [] q plain_nil)

-- `\x` and two hexadecimal digits
abbrev coded : ℕ → List ℕ
coded b = 92 ∷ 120 ∷ hex_digit_at 0x10 b ∷ hex_digit_at 1 b ∷ []

coded_plain : (b : ℕ) → IsPlain (coded b)
coded_plain b =
    plain_cons 92 (120 ∷ hex_digit_at 0x10 b ∷ hex_digit_at 1 b ∷ []) (omega arith, omega arith)
    (plain_cons 120 (hex_digit_at 0x10 b ∷ hex_digit_at 1 b ∷ []) (omega arith, omega arith)
    (two_plain (hex_digit_at 0x10 b) (hex_digit_at 1 b) (digit_plain (b / 0x10 % 16) (omega arith))
    (digit_plain (b / 1 % 16) (omega arith))))

-- what tests have decided
positive : (n : ℕ) → nat_lt 0 n ≡ true → 0 < n
positive n e = grind (arith, nat_tests)

at_least : (n most : ℕ) → nat_lt n most ≡ false → most ≤ n
at_least n most e = grind (arith, nat_tests)

below : (n most : ℕ) → nat_lt n most ≡ true → n < most
below n most e = grind (arith, nat_tests)

-- each byte is written by plain ones
pub escape_plain : (b : ℕ) → IsPlain (escape_ascii b)
escape_plain b =
    of_cond (nat_lt 0 (short_escape b)) (92 ∷ short_escape b ∷ []) (cond (nat_lt b 32) (coded b) (cond (nat_lt b 127) (b ∷ []) (coded b)))
    (λ t. two_plain 92 (short_escape b) (omega arith, omega arith) (short_plain b (positive (short_escape b) t)))
    (λ f. of_cond (nat_lt b 32) (coded b) (cond (nat_lt b 127) (b ∷ []) (coded b))
    (λ t. coded_plain b)
    (λ least. of_cond (nat_lt b 127) (b ∷ []) (coded b)
    (λ most. plain_cons b [] (at_least b 32 least, below b 127 most) plain_nil)
    (λ past. coded_plain b)))

-- ---- letters of an escape, one after the other

-- one more is written
pub one_more_letter : (now more : List ℕ) (ch letter : ℕ) (left rest whole : List ℕ) → ch ≡ letter → more ≡ now ++ encode_utf8 ch
    → left ≡ letter ∷ rest → now ++ encode_utf8_all left ≡ whole → more ++ encode_utf8_all rest ≡ whole
one_more_letter now more ch letter left rest whole same pushed step e =
    ap (λ (l : List ℕ). l ++ encode_utf8_all rest) pushed
    ∙ append_assoc now (encode_utf8 ch) (encode_utf8_all rest)
    ∙ ap (λ c. now ++ (encode_utf8 c ++ encode_utf8_all rest)) same
    ∙ ap (λ (l : List ℕ). now ++ encode_utf8_all l) (sym step)
    ∙ e

-- if no letter is left, all are written
pub all_escaped : (now old left : List ℕ) (b : ℕ) → left ≡ [] → now ++ encode_utf8_all left ≡ old ++ encode_utf8_all (escape_ascii b)
    → now ≡ old ++ escape_ascii b
all_escaped now old left b none e =
    sym (append-nil now)
    ∙ ap (λ (l : List ℕ). now ++ encode_utf8_all l) (sym none)
    ∙ e
    ∙ ap (λ (l : List ℕ). old ++ l) (encoded_plain (escape_ascii b) (escape_plain b))
