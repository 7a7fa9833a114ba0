-- What a line asks: a question, or for a setting.
use Rattle.std.proofs.Common.{◌≡◌, ℕ, ◌<◌, ◌==◌, List, [], ◌∷◌, length, All, codes, false, sym, ap, ◌∙◌, arith}
use Rattle.std.specs.List.{join_with_byte}
use Rattle.std.proofs.lemmas.List.Elements.{All-nil, All-cons, All-same}
use Rattle.std.proofs.lemmas.List.Splits.{join_with_byte-slice_split}
use Rattle.meta_lines.specs.Words.{AreWords, pieces_of}
use Rattle.meta_gen.specs.Question.{Question}
use Rattle.meta_query_lines.specs.Question.{IsQuestion, question_words_of}
use Rattle.meta_query_lines.specs.Inference.{Inference, IsInference}
use Rattle.meta_query_lines.specs.Query.{Asked, OfQuestion, OfInference, OfSetting, setting_words, Asks}
use Rattle.meta_lines.proofs.PieceLemmas.{All-slice_split}
use Rattle.meta_lines.proofs.WordLemmas.{pieces_of-words, words_from}
use Rattle.meta_query_lines.proofs.QuestionLemmas.{one_question}
use Rattle.meta_query_lines.proofs.InferenceLemmas.{one_inference}

-- the line whose pieces are the words asks for the setting
pub asks_setting : (line name : List ℕ) → pieces_of 32 line ≡ setting_words name → 0 < length name → AreWords line (setting_words name)
asks_setting line name pieces named =
    let P : List ℕ → Type 0 = λ w. 0 < length w in
    let some : All P (setting_words name) = All-cons P (codes "setting") (name ∷ []) (omega arith) (All-cons P name [] named (All-nil P)) in
    record {
      parted = sym (join_with_byte-slice_split 32 line) ∙ ap (join_with_byte 32) pieces;
      each = words_from (setting_words name) some (All-same (λ w. All (λ b. (b == 32) ≡ false) w) (setting_words name) (pieces_of 32 line)
          (sym pieces) (All-slice_split (λ b. b == 32) line));
    }

-- what a line asks is a question or a setting, and not both
not_both : (line : List ℕ) (q : Question) (name : List ℕ) → IsQuestion line q → AreWords line (setting_words name) → ⊥
not_both line q name asks words =
    let same : question_words_of q ≡ setting_words name = sym (pieces_of-words line _ _ asks.words) ∙ pieces_of-words line _ _ words in
    omega (arith, ap length same)

-- nor an inference and a question, or a setting
no_question_too : (line : List ℕ) (q : Question) (p : Inference) → IsQuestion line q → IsInference line p → ⊥
no_question_too line q p asks infers =
    let same = sym (pieces_of-words line _ _ asks.words) ∙ pieces_of-words line _ _ infers.words in
    omega (arith, ap length same)

no_setting_too : (line name : List ℕ) (p : Inference) → AreWords line (setting_words name) → IsInference line p → ⊥
no_setting_too line name p words infers =
    let same = sym (pieces_of-words line _ _ words) ∙ pieces_of-words line _ _ infers.words in
    omega (arith, ap length same)

-- a line asks one thing at most
pub one_query : (line : List ℕ) (q p : Asked) → Asks line q → Asks line p → q ≡ p
one_query line (OfQuestion q) (OfQuestion p) h k = ap OfQuestion (one_question line q p h k)
one_query line (OfQuestion q) (OfSetting name) h k = absurd (not_both line q name h k)
one_query line (OfQuestion q) (OfInference p) h k = absurd (no_question_too line q p h k)
one_query line (OfInference p) (OfQuestion q) h k = absurd (no_question_too line q p k h)
one_query line (OfInference p) (OfInference q) h k = ap OfInference (one_inference line p q h k)
one_query line (OfInference p) (OfSetting name) h k = absurd (no_setting_too line name p k h)
one_query line (OfSetting name) (OfInference p) h k = absurd (no_setting_too line name p h k)
one_query line (OfSetting name) (OfQuestion q) h k = absurd (not_both line q name k h)
one_query line (OfSetting name) (OfSetting other) h k =
    let words : setting_words name ≡ setting_words other = sym (pieces_of-words line _ _ h) ∙ pieces_of-words line _ _ k in
    let same : name ≡ other = cc in
    ap OfSetting same
