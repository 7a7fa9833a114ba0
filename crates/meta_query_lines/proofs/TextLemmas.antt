-- The answers of lines as texts, one line after another.
use Rattle.std.proofs.Common.{◌≡◌, ℕ, ◌==◌, false, List, [], ◌∷◌, ◌++◌, length, append_assoc, append-nil, refl, sym, ap, ap₂, ◌∙◌, subst}
use Rattle.meta_query_lines.specs.Explained.{IsLineText, AreTexts}

module _ (R : List ℕ → List ℕ → Type 0) where
  -- a line that isn't empty is answered by its text and LF
  pub line_written : (line old more new : List ℕ) → false ≡ (length line == 0)
      → (text : List ℕ) × R line text × (more ≡ old ++ text) → new ≡ more ++ 10 ∷ []
      → (text : List ℕ) × IsLineText R line text × (new ≡ old ++ text)
  line_written [] old more new some h e = absurd (cc)
  line_written (c ∷ cs) old more new some (text, is, added) e =
      (text ++ 10 ∷ [], (text, is, refl), e ∙ ap (λ m. m ++ 10 ∷ []) added ∙ append_assoc old text (10 ∷ []))

  -- an empty line isn't answered
  pub no_line_written : (line old new : List ℕ) → line ≡ [] → new ≡ old → (text : List ℕ) × IsLineText R line text × (new ≡ old ++ text)
  no_line_written [] old new none e = ([], refl, e ∙ sym (append-nil old))
  no_line_written (c ∷ cs) old new none e = absurd (cc)

  module _ (all : List (List ℕ)) (old : List ℕ) where
    -- whatever answers the lines that are left completes what was written
    abbrev pub AreLeft : List (List ℕ) → List ℕ → Type 0
    AreLeft lines out = (rest : List ℕ) → AreTexts R lines rest → (text : List ℕ) × AreTexts R all text × (out ++ rest ≡ old ++ text)

    pub all_left : (lines : List (List ℕ)) → lines ≡ all → AreLeft lines old
    all_left lines e = λ rest answers. (rest, subst (λ ls. AreTexts R ls rest) e answers, refl)

    -- one more line is answered
    pub one_less_left : (lines left : List (List ℕ)) (line out more : List ℕ) → lines ≡ line ∷ left
        → (text : List ℕ) × IsLineText R line text × (more ≡ out ++ text) → AreLeft lines out → AreLeft left more
    one_less_left lines left line out more e (first, is, added) before = λ rest answers.
        let whole : AreTexts R lines (first ++ rest) = subst (λ ls. AreTexts R ls (first ++ rest)) (sym e) (first, rest, is, answers, refl) in
        let (text, are, joined) = before (first ++ rest) whole in
        (text, are, ap (λ m. m ++ rest) added ∙ append_assoc out first rest ∙ joined)

    -- all lines are answered
    pub none_left : (lines : List (List ℕ)) (out : List ℕ) → lines ≡ [] → AreLeft lines out
        → (text : List ℕ) × AreTexts R all text × (out ≡ old ++ text)
    none_left lines out e before =
        let (text, are, joined) = before [] (subst (λ ls. AreTexts R ls []) (sym e) refl) in
        (text, are, sym (append-nil out) ∙ joined)

  -- ---- where a line has one text at most, lines have one output

  module _ (one : (line a b : List ℕ) → R line a → R line b → a ≡ b) where
    one_line_text : (line a b : List ℕ) → IsLineText R line a → IsLineText R line b → a ≡ b
    one_line_text [] a b h g = h ∙ sym g
    one_line_text (c ∷ cs) a b (text, is, e) (other, too, d) = e ∙ ap (λ t. t ++ 10 ∷ []) (one (c ∷ cs) text other is too) ∙ sym d

    pub one_output_text : (lines : List (List ℕ)) (a b : List ℕ) → AreTexts R lines a → AreTexts R lines b → a ≡ b
    one_output_text [] a b h g = h ∙ sym g
    one_output_text (line ∷ lines) a b (first, rest, h, hs, is) (other, others, g, gs, too) = is
        ∙ ap₂ ◌++◌ (one_line_text line first other h g) (one_output_text lines rest others hs gs) ∙ sym too
