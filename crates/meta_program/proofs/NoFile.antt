-- Words that ask something of a file, and words that ask nothing of any.
use Rattle.std.proofs.Common.{◌≡◌, ◌∙◌, inl, inr, ℕ, List, [], ◌∷◌, length, codes, sym, ap, subst, arith}
use Rattle.meta_program.specs.Over.{IsOption, IsOptionWith, AskOverFile}
use Rattle.meta_program.specs.declared.plan.Names.TheVariants.{Warn, Refuse}
use Rattle.meta_program.proofs.Words.{first}

-- the words ask nothing of any file
abbrev pub AskNoFile : List (List ℕ) → Type 0
AskNoFile words = (path : List ℕ) (others : List (List ℕ)) → AskOverFile words path others → ⊥

module _ (words : List (List ℕ)) (word : List ℕ) (after : List (List ℕ)) (are : words ≡ word ∷ after) where
  -- a word with a path is the first
  pub file_with : (path : List ℕ) → IsOptionWith word path → AskOverFile words path after
  file_with path holds = inl (inr (word, holds, are))

  -- or an option is, and the path comes after it
  pub file_after : (path : List ℕ) (asked : List (List ℕ)) → IsOption word → after ≡ path ∷ asked → AskOverFile words path asked
  file_after path asked is e = inl (inl (word, is, are ∙ ap (λ (ws : List (List ℕ)). word ∷ ws) e))

  -- neither of both, nor `check`
  pub other_word : (word ≡ codes "check" → ⊥) → ((path : List ℕ) → IsOptionWith word path → ⊥)
      → (IsOption word → after ≡ []) → AskNoFile words
  other_word no_check no_path alone path others (inl (inl (o, is, h))) =
      let same : o ≡ word = ap first (sym h ∙ are) in
      let none : after ≡ [] = alone (subst IsOption same is) in
      let clash = ap length (sym h ∙ are ∙ ap (λ (ws : List (List ℕ)). word ∷ ws) none) in
      omega (arith, clash)
  other_word no_check no_path alone path others (inl (inr (w, holds, h))) =
      let same : w ≡ word = ap first (sym h ∙ are) in no_path path (subst (λ (x : List ℕ). IsOptionWith x path) same holds)
  other_word no_check no_path alone path others (inr (Warn, inl h, d)) = no_check (ap first (sym are ∙ h.1))
  other_word no_check no_path alone path others (inr (Refuse, inl h, d)) = no_check (ap first (sym are ∙ h.1))
  other_word no_check no_path alone path others (inr (Warn, inr h, d)) = no_check (ap first (sym are ∙ h))
  other_word no_check no_path alone path others (inr (Refuse, inr h, d)) = no_check (ap first (sym are ∙ h))
