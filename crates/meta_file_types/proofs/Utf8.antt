-- Whether bytes are UTF-8, as a test.
use Rattle.std.proofs.Common.{◌≡◌, ℕ, List, [], ◌∷◌, ◌++◌, Bool, true, false, refl, sym, subst, arith}
use Rattle.std.specs.Str.{IsUtf8, is_utf8}
use Rattle.std.proofs.lemmas.Bool.{and_parts}
use Rattle.std.proofs.lemmas.Str.{IsUtf8-nil, IsUtf8-append, IsUtf8-encode, IsUtf8-from_is_utf8, is_utf8-from_IsUtf8, encode_ascii}
use lib.Utf8.{low_scalar}
use Rattle.meta_file_syntax.specs.Named.{more_lines, doc_text}
use Rattle.meta_file_types.specs.Texts.{are_texts}

pub is_text : (bs : List ℕ) → IsUtf8 bs → true ≡ is_utf8 bs
is_text bs h = sym (is_utf8-from_IsUtf8 bs h)

pub no_text : (bs : List ℕ) → (IsUtf8 bs → ⊥) → false ≡ is_utf8 bs
no_text bs none = by (is_utf8 bs) refl
  where
    by : (b : Bool) → is_utf8 bs ≡ b → false ≡ b
    by true e = absurd (none (IsUtf8-from_is_utf8 bs e))
    by false e = refl

-- bytes that pass the test are
pub is_no_text : (bs : List ℕ) → is_utf8 bs ≡ true → (IsUtf8 bs → ⊥) → ⊥
is_no_text bs e none = none (IsUtf8-from_is_utf8 bs e)

-- ---- lines

line_end : IsUtf8 (10 ∷ [])
line_end = subst IsUtf8 (encode_ascii 10 (omega arith)) (IsUtf8-encode 10 (low_scalar 10 (omega arith)))

more_are_text : (lines : List (List ℕ)) → are_texts lines ≡ true → IsUtf8 (more_lines lines)
more_are_text [] e = IsUtf8-nil
more_are_text (line ∷ more) e =
    let p = and_parts (is_utf8 line) (are_texts more) e in
    IsUtf8-append (10 ∷ []) (line ++ more_lines more) line_end
    (IsUtf8-append line (more_lines more) (IsUtf8-from_is_utf8 line p.0) (more_are_text more p.1))

-- lines that are UTF-8 are one text
pub doc_is_text : (lines : List (List ℕ)) → are_texts lines ≡ true → is_utf8 (doc_text lines) ≡ true
doc_is_text [] e = is_utf8-from_IsUtf8 [] IsUtf8-nil
doc_is_text (line ∷ more) e =
    let p = and_parts (is_utf8 line) (are_texts more) e in
    is_utf8-from_IsUtf8 (line ++ more_lines more)
    (IsUtf8-append line (more_lines more) (IsUtf8-from_is_utf8 line p.0) (more_are_text more p.1))
