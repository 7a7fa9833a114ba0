-- Texts in which a byte doesn't stand, and lines.
use Rattle.std.proofs.Common.{◌≡◌, ℕ, zero, suc, ◌<◌, ◌/◌, ◌%◌, ◌==◌, cond, not, ◌&&◌, Bool, true, false, List, [], ◌∷◌, ◌++◌, All, refl}
use Rattle.std.proofs.Common.{sym, ap, ◌∙◌, arith}
use Rattle.std.proofs.lemmas.Bool.{eqb-true, false≢true}
use Rattle.std.proofs.lemmas.List.Folds.{list_all-append}
use Rattle.std.proofs.lemmas.List.Elements.{All-weaker}
use Rattle.std.proofs.lemmas.Str.Ascii.{IsAscii-from_all}
use Rattle.std.proofs.lemmas.Bool.Decides.{nat_tests}
use Rattle.std.specs.Char.{is_ascii_digit}
use Rattle.std.specs.Fmt.{decimal, digits, digits_onto, digit_glyph}
use Rattle.std.specs.Str.{IsAscii}
use Rattle.meta_table_reader.specs.Spans.{lacks, is_line, is_nothing}
use Rattle.meta_table_reader.proofs.ItemsRead.{all_first, all_after}

-- what lacks the byte, and more that lacks it
pub both_lack : (stop : ℕ) (front after : List ℕ) → lacks stop front ≡ true → lacks stop after ≡ true
    → lacks stop (front ++ after) ≡ true
both_lack stop front after f b = list_all-append (λ c. not (c == stop)) front after ∙ (λ i. f i && b i)

-- a text without an LF and then the end of a line are a line
pub line_after : (front after : List ℕ) → lacks 10 front ≡ true → is_line after ≡ true → is_line (front ++ after) ≡ true
line_after [] after free is = is
line_after (c ∷ front) after free is = by_test (c == 10) free (λ free. line_after front after free is)
  where
    by_test : (b : Bool) → (not b && lacks 10 front) ≡ true → (lacks 10 front ≡ true → is_line (front ++ after) ≡ true)
        → cond b (is_nothing (front ++ after)) (is_line (front ++ after)) ≡ true
    by_test true free below = absurd (cc)
    by_test false free below = below free

-- a byte that none of the bytes can be
pub lacks_by : (P : ℕ → Type 0) (stop : ℕ) → ((c : ℕ) → P c → c ≡ stop → ⊥) → (text : List ℕ) → All P text → lacks stop text ≡ true
lacks_by P stop never [] all = refl
lacks_by P stop never (c ∷ text) all = by_test (c == stop) refl (lacks_by P stop never text (all_after P c text all))
  where
    by_test : (b : Bool) → (c == stop) ≡ b → lacks stop text ≡ true → (not b && lacks stop text) ≡ true
    by_test true is below = absurd (never c (all_first P c text all) (eqb-true c stop is))
    by_test false is below = below

-- bytes of ASCII
pub ascii_by : (P : ℕ → Type 0) → ((c : ℕ) → P c → c < 128) → (text : List ℕ) → All P text → IsAscii text
ascii_by P small text all = IsAscii-from_all text (All-weaker P (λ c. c < 128) small text all)

-- what isn't a digit stands in no number, however large
digit_other : (stop d : ℕ) → is_ascii_digit stop ≡ false → d < 10 → (digit_glyph false d == stop) ≡ false
digit_other stop d other small = by_test (digit_glyph false d == stop) refl
  where
    is_digit : is_ascii_digit (digit_glyph false d) ≡ true
    is_digit = grind (arith, nat_tests)

    by_test : (b : Bool) → (digit_glyph false d == stop) ≡ b → b ≡ false
    by_test false is = refl
    by_test true is = absurd (false≢true (sym other ∙ ap is_ascii_digit (sym (eqb-true (digit_glyph false d) stop is)) ∙ is_digit))

digits_lack : (stop fuel n : ℕ) (after : List ℕ) → is_ascii_digit stop ≡ false → lacks stop after ≡ true
    → lacks stop (digits_onto fuel 10 false n after) ≡ true
digits_lack stop zero n after other free = free
digits_lack stop (suc fuel) n after other free =
    by_test (n / 10 == 0) (digits_lack stop fuel (n / 10) (digit_glyph false (n % 10) ∷ after) other more)
  where
    more : lacks stop (digit_glyph false (n % 10) ∷ after) ≡ true
    more = (λ i. not (digit_other stop (n % 10) other (omega arith) i) && free i)

    by_test : (b : Bool) → lacks stop (digits_onto fuel 10 false (n / 10) (digit_glyph false (n % 10) ∷ after)) ≡ true
        → lacks stop (cond b (digit_glyph false (n % 10) ∷ after)
        (digits_onto fuel 10 false (n / 10) (digit_glyph false (n % 10) ∷ after))) ≡ true
    by_test true above = more
    by_test false above = above

pub any_number_lacks : (stop : ℕ) → is_ascii_digit stop ≡ false → (n : ℕ) → lacks stop (decimal n) ≡ true
unfolding digits
any_number_lacks stop other n = digits_lack stop 64 n [] other refl
