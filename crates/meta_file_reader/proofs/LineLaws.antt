-- Lines are read one by one.
use Rattle.std.proofs.Common.{◌≡◌, ◌∙◌, ℕ, List, [], ◌∷◌, ◌++◌, refl, sym, ap, subst, arith, append_assoc}
use Rattle.std.specs.Str.{IsUtf8}
use Rattle.std.proofs.lemmas.Str.{IsUtf8-append, IsUtf8-encode, is_utf8-from_IsUtf8, encode_ascii}
use lib.Utf8.{low_scalar}
use Rattle.meta_file_syntax.specs.Scan.{State, given, after, scanned, tokens_in}
use Rattle.meta_file_syntax.specs.Encoding.{text_tokens}

lines_from : (s : State) (a b : List ℕ) → scanned s.mode s.bytes (a ++ 10 ∷ b) ≡ scanned s.mode s.bytes a ++ tokens_in b
lines_from s [] b = refl
lines_from s (c ∷ cs) b =
    let t : State = after s.mode s.bytes c in
    ap (λ us. given s.mode s.bytes c ++ us) (lines_from t cs b)
    ∙ sym (append_assoc (given s.mode s.bytes c) (scanned t.mode t.bytes cs) (tokens_in b))

pub lines_alone : (a b : List ℕ) → tokens_in (a ++ 10 ∷ b) ≡ tokens_in a ++ tokens_in b
lines_alone a b = lines_from (record { mode = _; bytes = [] }) a b

line_end : IsUtf8 (10 ∷ [])
line_end = subst IsUtf8 (encode_ascii 10 (omega arith)) (IsUtf8-encode 10 (low_scalar 10 (omega arith)))

pub text_is : (text : List ℕ) → IsUtf8 text → text_tokens text ≡ tokens_in text
text_is text u = rw (is_utf8-from_IsUtf8 text u) refl

pub text_lines_alone : (a b : List ℕ) → IsUtf8 a → IsUtf8 b → text_tokens (a ++ 10 ∷ b) ≡ text_tokens a ++ text_tokens b
text_lines_alone a b u v =
    text_is (a ++ 10 ∷ b) (IsUtf8-append a (10 ∷ b) u (IsUtf8-append (10 ∷ []) b line_end v)) ∙ lines_alone a b
    ∙ ap (λ ts. ts ++ tokens_in b) (sym (text_is a u)) ∙ ap (λ ts. text_tokens a ++ ts) (sym (text_is b v))
