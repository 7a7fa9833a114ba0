-- One token more, or one comma less.
use Rattle.std.proofs.Common.{◌≡◌, ◌∙◌, ℕ, ◌+◌, Bool, true, false, cond, List, [], ◌∷◌, ◌++◌, length, sym, ap, append_assoc}
use Rattle.std.proofs.Common.{length-append, arith}
use Rattle.std.specs.Prelude.{◌&&◌}
use Rattle.std.proofs.lemmas.List.{append-nil}
use Rattle.meta_file_syntax.specs.declared.token.Token.{Token}
use Rattle.meta_file_syntax.specs.Squeezed.{is_comma, ends_first, squeezed, squeezed_lines}

kept : {A : Type 0} (out : List A) (x : A) (more : List A) (b : Bool) → (out ++ cond b [] (x ∷ [])) ++ more ≡ out ++ cond b more (x ∷ more)
kept {A} out x more true = ap (λ (ys : List A). ys ++ more) (append-nil out)
kept out x more false = append_assoc out (x ∷ []) more

pub tokens_go_on : (out new : List Token) (t : Token) (rest ts total : List Token)
    → new ≡ out ++ cond (is_comma t && ends_first ts) [] (t ∷ []) → rest ≡ t ∷ ts
    → out ++ squeezed rest ≡ total → new ++ squeezed ts ≡ total
tokens_go_on out new t rest ts total h e so_far =
    ap (λ (ys : List Token). ys ++ squeezed ts) h ∙ kept out t (squeezed ts) (is_comma t && ends_first ts)
    ∙ ap (λ (ys : List Token). out ++ squeezed ys) (sym e) ∙ so_far

pub lines_go_on : (out new : List ℕ) (t : Token) (n : ℕ) (rest ts : List Token) (left ns total : List ℕ)
    → new ≡ out ++ cond (is_comma t && ends_first ts) [] (n ∷ []) → rest ≡ t ∷ ts → left ≡ n ∷ ns
    → out ++ squeezed_lines rest left ≡ total → new ++ squeezed_lines ts ns ≡ total
lines_go_on out new t n rest ts left ns total h e l so_far =
    ap (λ (ys : List ℕ). ys ++ squeezed_lines ts ns) h ∙ kept out n (squeezed_lines ts ns) (is_comma t && ends_first ts)
    ∙ ap (λ (ys : List Token). out ++ squeezed_lines ys (n ∷ ns)) (sym e)
    ∙ ap (λ (ys : List ℕ). out ++ squeezed_lines rest ys) (sym l) ∙ so_far

-- as many of both
pub as_many : (b : Bool) (n : ℕ) (t : Token) (lines new_lines : List ℕ) (tokens new_tokens : List Token)
    → new_lines ≡ lines ++ cond b [] (n ∷ []) → new_tokens ≡ tokens ++ cond b [] (t ∷ [])
    → length lines ≡ length tokens → length new_lines ≡ length new_tokens
as_many true n t lines new_lines tokens new_tokens h e same = ap length (h ∙ append-nil lines) ∙ same
    ∙ sym (ap length (e ∙ append-nil tokens))
as_many false n t lines new_lines tokens new_tokens h e same =
    let a : length new_lines ≡ length lines + 1 = ap length h ∙ length-append lines (n ∷ []) in
    let b : length new_tokens ≡ length tokens + 1 = ap length e ∙ length-append tokens (t ∷ []) in
    omega arith
