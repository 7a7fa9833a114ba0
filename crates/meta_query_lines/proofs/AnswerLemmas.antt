-- The answers of lines, one line after another.
use Rattle.std.proofs.Common.{◌≡◌, ℕ, ◌==◌, false, List, [], ◌∷◌, ◌++◌, length, append_assoc, inl, refl, sym, ap, ◌∙◌, subst}
use Rattle.std.specs.Prelude.{Some, Result, Ok, Err, OnOk, is_ok, if◌then◌else◌}
use Rattle.std.proofs.lemmas.List.{append-nil}
use Rattle.meta_gen.specs.WholeTables.{WholeTables}
use Rattle.meta_lines.specs.Words.{AreWords}
use Rattle.meta_gen.specs.Question.{Question}
use Rattle.meta_query_lines.specs.Question.{IsQuestion}
use Rattle.meta_query_lines.specs.Inference.{Inference, IsInference}
use Rattle.meta_query_lines.specs.Query.{OfQuestion, OfInference, OfSetting, setting_words}
use Rattle.meta_gen.specs.Reply.{reply_text, AllowedReply}
use Rattle.meta_query_lines.specs.Answer.{GivenReply, SettingReply, IsTableReply, reply_line, IsLineAnswer, IsWrittenAnswer}
use Rattle.meta_query_lines.specs.Answer.{AreWrittenAnswers}
use Rattle.meta_gen.specs.declared.reply.Reply.{Reply}

module _ (tables : WholeTables) (line : List ℕ) where
  -- the reply to the setting that a line asks for is the reply to the line
  pub of_setting : (name old new : List ℕ) → AreWords line (setting_words name)
      → (reply : Reply) × SettingReply tables name reply × (new ≡ old ++ reply_text reply)
      → (reply : Reply) × IsTableReply tables line reply × (new ≡ old ++ reply_text reply)
  of_setting name old new words h = (h.0, inl (OfSetting name, words, h.1), h.2)

  -- so is the reply to its question
  pub of_question : (q : Question) (reply : Reply) → IsQuestion line q → AllowedReply tables.opcodes q reply
      → IsTableReply tables line reply
  of_question q reply asks allowed = inl (OfQuestion q, asks, allowed)

  -- and that to what it asks to infer
  pub of_inference : (q : Inference) (old new : List ℕ) → IsInference line q
      → (reply : Reply) × GivenReply tables.opcodes q reply × (new ≡ old ++ reply_text reply)
      → (reply : Reply) × IsTableReply tables line reply × (new ≡ old ++ reply_text reply)
  of_inference q old new asks h = (h.0, inl (OfInference q, asks, h.1), h.2)

-- a text is pushed where that is said to be done
pub pushed : {T E : Type 0} (r : Result T E) (old new text : List ℕ) → new ≡ (if is_ok r then old ++ text else old)
    → OnOk r (new ≡ old ++ text)
pushed (Ok x) old new text e = e
pushed (Err x) old new text e = tt

-- a line that isn't empty is answered by its reply and LF
pub written : (R : List ℕ → Reply → Type 0) (line old more new : List ℕ) → false ≡ (length line == 0)
    → (reply : Reply) × R line reply × (more ≡ old ++ reply_text reply) → new ≡ more ++ 10 ∷ []
    → (text : List ℕ) × IsWrittenAnswer R line text × (new ≡ old ++ text)
written R [] old more new some h e = absurd (cc)
written R (c ∷ cs) old more new some (reply, is, added) e =
    (reply_line reply, (reply, is, refl), e ∙ ap (λ m. m ++ 10 ∷ []) added ∙ append_assoc old (reply_text reply) (10 ∷ []))

-- and it is the answer to that line where nothing was written before
pub line_answered : (R : List ℕ → Reply → Type 0) (line old new text : List ℕ) → false ≡ (length line == 0)
    → (reply : Reply) × R line reply × (new ≡ old ++ reply_text reply) → old ≡ [] → text ≡ new → IsLineAnswer R line (Some text)
line_answered R [] old new text some h none is = absurd (cc)
line_answered R (c ∷ cs) old new text some (reply, replies, added) none is =
    (reply, replies, ap Some (is ∙ added ∙ ap (λ o. o ++ reply_text reply) none))

-- one more line is answered
pub more_answers : (R : List ℕ → Reply → Type 0) (all lines left : List (List ℕ)) (line old out more : List ℕ)
    → lines ≡ line ∷ left → (text : List ℕ) × IsWrittenAnswer R line text × (more ≡ out ++ text)
    → ((rest : List ℕ) → AreWrittenAnswers R lines rest → (text : List ℕ) × AreWrittenAnswers R all text
    × (out ++ rest ≡ old ++ text)) → (rest : List ℕ) → AreWrittenAnswers R left rest
    → (text : List ℕ) × AreWrittenAnswers R all text × (more ++ rest ≡ old ++ text)
more_answers R all lines left line old out more e h before rest answers =
    let whole : AreWrittenAnswers R lines (h.0 ++ rest) =
    subst (λ ls. AreWrittenAnswers R ls (h.0 ++ rest)) (sym e) (h.0, rest, h.1, answers, refl) in
    let (text, are, joined) = before (h.0 ++ rest) whole in
    (text, are, ap (λ m. m ++ rest) h.2 ∙ append_assoc out h.0 rest ∙ joined)

-- all lines are answered
pub all_answers : (R : List ℕ → Reply → Type 0) (all lines : List (List ℕ)) (old out : List ℕ) → lines ≡ []
    → ((rest : List ℕ) → AreWrittenAnswers R lines rest → (text : List ℕ) × AreWrittenAnswers R all text
    × (out ++ rest ≡ old ++ text)) → (text : List ℕ) × AreWrittenAnswers R all text × (out ≡ old ++ text)
all_answers R all lines old out e before =
    let (text, are, joined) = before [] (subst (λ ls. AreWrittenAnswers R ls []) (sym e) refl) in
    (text, are, sym (append-nil out) ∙ joined)
