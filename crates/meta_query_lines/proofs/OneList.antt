-- Where a line has one reply at most, lines have one answer.
use Rattle.std.proofs.Common.{◌≡◌, ℕ, List, [], ◌∷◌, ◌++◌, sym, ap, ap₂, ◌∙◌}
use Rattle.meta_query_lines.specs.Answer.{reply_line, IsWrittenAnswer, AreWrittenAnswers}
use Rattle.meta_gen.specs.declared.reply.Reply.{Reply}

module _ (Replies : List ℕ → Reply → Type 0) (one_reply : (line : List ℕ) (r s : Reply) → Replies line r → Replies line s → r ≡ s) where
  one_answer : (line a b : List ℕ) → IsWrittenAnswer Replies line a → IsWrittenAnswer Replies line b → a ≡ b
  one_answer [] a b h g = h ∙ sym g
  one_answer (x ∷ xs) a b (r, is, text) (s, other, written) = text ∙ ap reply_line (one_reply (x ∷ xs) r s is other) ∙ sym written

  pub one_list : (lines : List (List ℕ)) (a b : List ℕ) → AreWrittenAnswers Replies lines a → AreWrittenAnswers Replies lines b → a ≡ b
  one_list [] a b h g = h ∙ sym g
  one_list (line ∷ lines) a b (first, rest, h, hs, is) (other, others, g, gs, too) = is
      ∙ ap₂ ◌++◌ (one_answer line first other h g) (one_list lines rest others hs gs) ∙ sym too
