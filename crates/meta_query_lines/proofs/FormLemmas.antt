-- The forms of the lines that ask.
use Rattle.std.proofs.Common.{◌≡◌, ◌≢◌, ℕ, ◌<◌, Bool, true, false, cond, List, [], ◌∷◌, length, Some, None, codes, refl, sym, ap, ◌∙◌}
use Rattle.std.proofs.Common.{arith}
use Rattle.std.specs.Prelude.{nat_eq}
use Rattle.std.specs.Cmp.Lexicographic.{bytes_decides, pointwise}
use Rattle.std.proofs.lemmas.List.Elements.{All-head, All-tail}
use Rattle.meta_lines.specs.Words.{IsWord, pieces_of}
use Rattle.meta_lines.specs.Control.{control_text}
use Rattle.meta_lines.specs.TypeList.{types_text}
use Rattle.meta_lines.proofs.WordLemmas.{pieces_of-words}
use Rattle.meta_gen.specs.Question.{Question}
use Rattle.meta_query_lines.specs.Question.{IsQuestion, question_words}
use Rattle.meta_query_lines.specs.Inference.{Inference, IsInference, inference_words}
use Rattle.meta_query_lines.specs.Query.{Asked, OfQuestion, OfInference, OfSetting, setting_words, Asks}
use Rattle.meta_query_lines.specs.Form.{command_text, command_named}
use Rattle.meta_query_lines.specs.declared.form.QueryWord.{QueryWord}
use Rattle.meta_query_lines.specs.declared.form.QueryWord.TheVariants.{Accept, Infer, Setting}
use Rattle.meta_query_lines.proofs.QuestionLemmas.{name_has_bytes}
use Rattle.meta_query_lines.proofs.InferenceLemmas.{name_bytes}

-- ---- the first word

named_back : (c : QueryWord) → command_named (command_text c) ≡ Some c
named_back Accept = refl
named_back Infer = refl
named_back Setting = refl

-- a word is the command that it is found to be
command_is : (text : List ℕ) (c : QueryWord) → command_named text ≡ Some c → text ≡ command_text c
command_is text c e = by_accept (pointwise nat_eq text (codes "accept")) refl e
  where
    by_setting : (b : Bool) → pointwise nat_eq text (codes "setting") ≡ b → cond b (Some Setting) None ≡ Some c → text ≡ command_text c
    by_setting true is e = let same : Setting ≡ c = cc in (bytes_decides text (codes "setting")).0 is ∙ ap command_text same
    by_setting false is e = absurd (cc)

    by_infer : (b : Bool) → pointwise nat_eq text (codes "infer") ≡ b
        → cond b (Some Infer) (cond (pointwise nat_eq text (codes "setting")) (Some Setting) None) ≡ Some c → text ≡ command_text c
    by_infer true is e = let same : Infer ≡ c = cc in (bytes_decides text (codes "infer")).0 is ∙ ap command_text same
    by_infer false is e = by_setting (pointwise nat_eq text (codes "setting")) refl e

    by_accept : (b : Bool) → pointwise nat_eq text (codes "accept") ≡ b
        → cond b (Some Accept) (cond (pointwise nat_eq text (codes "infer")) (Some Infer)
        (cond (pointwise nat_eq text (codes "setting")) (Some Setting) None)) ≡ Some c → text ≡ command_text c
    by_accept true is e = let same : Accept ≡ c = cc in (bytes_decides text (codes "accept")).0 is ∙ ap command_text same
    by_accept false is e = by_infer (pointwise nat_eq text (codes "infer")) refl e

no_command : (text : List ℕ) (c : QueryWord) → command_named text ≡ None → text ≡ command_text c → ⊥
no_command text c none e =
    let both : None ≡ Some c = sym none ∙ ap command_named e ∙ named_back c in
    absurd (cc)

other_command : (c d : QueryWord) → command_text c ≡ command_text d → c ≡ d
other_command c d e =
    let both : Some c ≡ Some d = sym (named_back c) ∙ ap command_named e ∙ named_back d in
    cc

-- ---- what is asked

abbrev asked_command : Asked → QueryWord
asked_command (OfQuestion q) = Accept
asked_command (OfInference q) = Infer
asked_command (OfSetting name) = Setting

abbrev asked_after : Asked → List (List ℕ)
asked_after (OfQuestion q) = q.name ∷ control_text q.control q.second ∷ types_text q.results ∷ types_text q.values ∷ []
asked_after (OfInference q) = q.name ∷ control_text q.control q.second ∷ []
asked_after (OfSetting name) = name ∷ []

-- the pieces of a line that asks
asked_pieces : (line : List ℕ) (q : Asked) → Asks line q → pieces_of 32 line ≡ command_text (asked_command q) ∷ asked_after q
asked_pieces line (OfQuestion q) h = pieces_of-words line _ _ h.words
asked_pieces line (OfInference q) h = pieces_of-words line _ _ h.words
asked_pieces line (OfSetting name) h = pieces_of-words line _ _ h

-- a line of one word asks nothing
pub one_piece : (line first : List ℕ) → pieces_of 32 line ≡ first ∷ [] → (q : Asked) → Asks line q → ⊥
one_piece line first pieces (OfQuestion q) h = let e = ap length (sym pieces ∙ asked_pieces line (OfQuestion q) h) in omega (arith, e)
one_piece line first pieces (OfInference q) h = let e = ap length (sym pieces ∙ asked_pieces line (OfInference q) h) in omega (arith, e)
one_piece line first pieces (OfSetting name) h = let e = ap length (sym pieces ∙ asked_pieces line (OfSetting name) h) in omega (arith, e)

module _ (line first after : List ℕ) (pieces : pieces_of 32 line ≡ first ∷ pieces_of 32 after) where
  -- the words of the line are its command and what comes after it
  pub words_found : (c : QueryWord) (words : List (List ℕ)) → command_named first ≡ Some c
      → pieces_of 32 after ≡ words → pieces_of 32 line ≡ command_text c ∷ words
  words_found c words named e = pieces ∙ (λ i. command_is first c named i ∷ e i)

  first_is : (q : Asked) → Asks line q → first ≡ command_text (asked_command q)
  first_is q asks = let same = sym pieces ∙ asked_pieces line q asks in cc

  after_is : (q : Asked) → Asks line q → pieces_of 32 after ≡ asked_after q
  after_is q asks = let same = sym pieces ∙ asked_pieces line q asks in cc

  pub not_a_command : command_named first ≡ None → (q : Asked) → Asks line q → ⊥
  not_a_command none q asks = no_command first (asked_command q) none (first_is q asks)

  same_command : (c : QueryWord) → command_named first ≡ Some c → (q : Asked) → Asks line q → c ≡ asked_command q
  same_command c named q asks = other_command c (asked_command q) (sym (command_is first c named) ∙ first_is q asks)

  pub no_accept : command_named first ≡ Some Accept
      → ((name control results values : List ℕ) → 0 < length name
      → pieces_of 32 after ≢ name ∷ control ∷ results ∷ values ∷ []) → (q : Asked) → Asks line q → ⊥
  no_accept named none (OfQuestion q) asks = none q.name (control_text q.control q.second) (types_text q.results)
      (types_text q.values) (name_has_bytes line q asks) (after_is (OfQuestion q) asks)
  no_accept named none (OfInference q) asks = let e = same_command Accept named (OfInference q) asks in absurd (cc)
  no_accept named none (OfSetting name) asks = let e = same_command Accept named (OfSetting name) asks in absurd (cc)

  pub no_infer : command_named first ≡ Some Infer
      → ((name control : List ℕ) → 0 < length name → pieces_of 32 after ≢ name ∷ control ∷ []) → (q : Asked) → Asks line q → ⊥
  no_infer named none (OfQuestion q) asks = let e = same_command Infer named (OfQuestion q) asks in absurd (cc)
  no_infer named none (OfInference q) asks = none q.name (control_text q.control q.second) (name_bytes line q asks)
      (after_is (OfInference q) asks)
  no_infer named none (OfSetting name) asks = let e = same_command Infer named (OfSetting name) asks in absurd (cc)

  pub no_setting_word : command_named first ≡ Some Setting
      → ((name : List ℕ) → 0 < length name → pieces_of 32 after ≢ name ∷ []) → (q : Asked) → Asks line q → ⊥
  no_setting_word named none (OfQuestion q) asks = let e = same_command Setting named (OfQuestion q) asks in absurd (cc)
  no_setting_word named none (OfInference q) asks = let e = same_command Setting named (OfInference q) asks in absurd (cc)
  no_setting_word named none (OfSetting name) asks =
      none name (All-head IsWord name [] (All-tail IsWord (codes "setting") (name ∷ []) asks.each)).has_bytes
      (after_is (OfSetting name) asks)

-- ---- a line asks for one thing at most

module _ (line name control results values : List ℕ) (pieces : pieces_of 32 line ≡ question_words name control results values) where
  pub accept_alone : ((q : Question) → IsQuestion line q → ⊥) → (q : Asked) → Asks line q → ⊥
  accept_alone none (OfQuestion q) asks = none q asks
  accept_alone none (OfInference q) asks = let e = ap length (sym pieces ∙ asked_pieces line (OfInference q) asks) in omega (arith, e)
  accept_alone none (OfSetting n) asks = let e = ap length (sym pieces ∙ asked_pieces line (OfSetting n) asks) in omega (arith, e)

  pub accept_infers_nothing : (q : Inference) → IsInference line q → ⊥
  accept_infers_nothing q asks = let e = ap length (sym pieces ∙ asked_pieces line (OfInference q) asks) in omega (arith, e)

module _ (line name control : List ℕ) (pieces : pieces_of 32 line ≡ inference_words name control) where
  pub infer_alone : ((q : Inference) → IsInference line q → ⊥) → (q : Asked) → Asks line q → ⊥
  infer_alone none (OfQuestion q) asks = let e = ap length (sym pieces ∙ asked_pieces line (OfQuestion q) asks) in omega (arith, e)
  infer_alone none (OfInference q) asks = none q asks
  infer_alone none (OfSetting n) asks = let e = ap length (sym pieces ∙ asked_pieces line (OfSetting n) asks) in omega (arith, e)

  pub infer_accepts_nothing : (q : Question) → IsQuestion line q → ⊥
  infer_accepts_nothing q asks = let e = ap length (sym pieces ∙ asked_pieces line (OfQuestion q) asks) in omega (arith, e)

module _ (line name : List ℕ) (pieces : pieces_of 32 line ≡ setting_words name) where
  pub setting_accepts_nothing : (q : Question) → IsQuestion line q → ⊥
  setting_accepts_nothing q asks = let e = ap length (sym pieces ∙ asked_pieces line (OfQuestion q) asks) in omega (arith, e)

  pub setting_infers_nothing : (q : Inference) → IsInference line q → ⊥
  setting_infers_nothing q asks = let e = ap length (sym pieces ∙ asked_pieces line (OfInference q) asks) in omega (arith, e)
