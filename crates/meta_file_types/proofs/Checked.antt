-- What is wrong with an item, and what it declares.
use Rattle.std.proofs.Common.{◌≡◌, ◌∙◌, ℕ, List, [], ◌∷◌, sym, ap, refl, subst, Bool, true, false, cond, not, ◌==◌, length, arith}
use Rattle.std.proofs.lemmas.Bool.{eqb-true}
use Rattle.std.specs.Prelude.{Option, Some, None, Result, Ok, Err, OnOk, IsErr, IsErrAnd}
use Rattle.meta_file_types.specs.declared.refused.Reason.{Reason}
use Rattle.meta_file_types.specs.declared.refused.Reason.TheVariants.{NotText, DocumentedAlias, OwnMeaning, Declared}
use Rattle.meta_file_types.specs.declared.refused.ItemError.{ItemError}
use Rattle.meta_file_types.specs.declared.refused.ItemError.TheVariants.{Memory, Wrong}
use Rattle.meta_file_types.specs.declared.words.Word.{Word}
use Rattle.meta_file_types.specs.Plain.{has_own_meaning}
use Rattle.meta_file_types.specs.Texts.{are_texts}
use Rattle.meta_file_types.specs.Words.{Entry, entry_of, declared_above, wrong_word}
use Rattle.meta_file_types.specs.Said.{wrong_texts, wrong_docs}
use Rattle.meta_file_types.specs.Telling.{◌>>=◌, unless, reason_in, Fails, Refuses}
use Rattle.meta_file_types.specs.Registered.{Registered}
use Rattle.meta_file_types.specs.Held.{IsWordIn}

-- ---- words

above_none : (w : List ℕ) (o : Option Entry) → declared_above w o ≡ None → o ≡ None
above_none w None e = refl
above_none w (Some x) e = absurd (cc)

free_by : (b : Bool) (w : List ℕ) (o : Option Entry) → cond b (Some (OwnMeaning w)) (declared_above w o) ≡ None → o ≡ None
free_by true w o e = absurd (cc)
free_by false w o e = above_none w o e

-- a word that may be declared isn't declared above
pub word_free : (entries : List Entry) (w : List ℕ) → wrong_word entries w ≡ None → entry_of entries w ≡ None
word_free entries w e = free_by (has_own_meaning w) w (entry_of entries w) e

kept_above : (r : Registered) (w : List ℕ) (o : Option Entry) (kept : Word) → IsWordIn r o (Some kept)
    → declared_above w o ≡ Some (Declared w kept.place)
kept_above r w None kept h = absurd h
kept_above r w (Some e) kept h = ap (λ (n : ℕ). Some (Declared w n)) (sym h.place)

none_above : (r : Registered) (w : List ℕ) (o : Option Entry) → IsWordIn r o None → declared_above w o ≡ None
none_above r w None h = refl
none_above r w (Some e) h = absurd h

pub word_own : (entries : List Entry) (w : List ℕ) → has_own_meaning w ≡ true → wrong_word entries w ≡ Some (OwnMeaning w)
word_own entries w e = ap (λ (b : Bool). cond b (Some (OwnMeaning w)) (declared_above w (entry_of entries w))) e

pub word_known : (r : Registered) (entries : List Entry) (w : List ℕ) (kept : Word) → has_own_meaning w ≡ false
    → IsWordIn r (entry_of entries w) (Some kept) → wrong_word entries w ≡ Some (Declared w kept.place)
word_known r entries w kept e h =
    ap (λ (b : Bool). cond b (Some (OwnMeaning w)) (declared_above w (entry_of entries w))) e ∙ kept_above r w (entry_of entries w) kept h

pub word_new : (r : Registered) (entries : List Entry) (w : List ℕ) → has_own_meaning w ≡ false → IsWordIn r (entry_of entries w) None
    → wrong_word entries w ≡ None
word_new r entries w e h =
    ap (λ (b : Bool). cond b (Some (OwnMeaning w)) (declared_above w (entry_of entries w))) e ∙ none_above r w (entry_of entries w) h

-- ---- texts, then what is meant, then the word

module _ {A B : Type 0} (texts : List (List ℕ)) (a : Result A Reason) (word : Option Reason) (make : A → B) where
  -- what an item declares, by these three
  abbrev pub checked : Result B Reason
  checked = unless (wrong_texts texts) (a >>= λ x. unless word (Ok (make x)))

  pub no_text : are_texts texts ≡ false → checked ≡ Err NotText
  no_text e =
      ap (λ (b : Bool). unless (cond b None (Some NotText)) (a >>= λ x. unless word (Ok (make x)))) e

  text : are_texts texts ≡ true → checked ≡ (a >>= λ x. unless word (Ok (make x)))
  text e =
      ap (λ (b : Bool). unless (cond b None (Some NotText)) (a >>= λ x. unless word (Ok (make x)))) e

  pub meant_fails : (e : ItemError) → are_texts texts ≡ true → Fails e a → Fails e checked
  meant_fails Memory t h = tt
  meant_fails (Wrong reason) t h = text t ∙ ap (λ (x : Result A Reason). x >>= λ x. unless word (Ok (make x))) h

  pub word_fails : (x : A) (reason : Reason) → are_texts texts ≡ true → a ≡ Ok x → word ≡ Some reason → checked ≡ Err reason
  word_fails x reason t is w =
      text t ∙ (ap (λ (x : Result A Reason). x >>= λ x. unless word (Ok (make x))) is
      ∙ ap (λ (o : Option Reason). unless o (Ok (make x))) w)

  pub is_right : (x : A) → are_texts texts ≡ true → a ≡ Ok x → word ≡ None → checked ≡ Ok (make x)
  is_right x t is w =
      text t ∙ (ap (λ (x : Result A Reason). x >>= λ x. unless word (Ok (make x))) is
      ∙ ap (λ (o : Option Reason). unless o (Ok (make x))) w)

-- ---- what is told

pub refuses_right : {X : Type 0} (result : Result X ItemError) (wrong : Option Reason) → Refuses result wrong → OnOk result (wrong ≡ None)
refuses_right (Ok x) wrong h = h
refuses_right (Err e) wrong h = tt

pub refuses_wrong : {X : Type 0} (result : Result X ItemError) (wrong : Option Reason) (reason : Reason) → Refuses result wrong
    → result ≡ Err (Wrong reason) → wrong ≡ Some reason
refuses_wrong (Ok x) wrong reason h e = absurd (cc)
refuses_wrong (Err Memory) wrong reason h e = absurd (cc)
refuses_wrong (Err (Wrong other)) wrong reason h e =
    let same : other ≡ reason = cc in
    h ∙ ap (λ (x : Reason). Some x) same

pub refuses_residual : (result : Result (Unit {0}) ItemError) (e : ItemError) (wrong : Option Reason)
    → IsErr result × IsErrAnd result (λ y. y ≡ e) → Refuses {X = Unit {0}} (Err e) wrong → Refuses result wrong
refuses_residual (Ok x) e wrong h r = let not_ok = h.0 in absurd (cc)
refuses_residual (Err f) e wrong h r = subst (λ (y : ItemError). Refuses {X = Unit {0}} (Err y) wrong) (sym h.1) r

pub fails_refuses : {M : Type 0} (e : ItemError) (meant : Result M Reason) → Fails e meant
    → Refuses {X = Unit {0}} (Err e) (reason_in meant)
fails_refuses Memory meant h = tt
fails_refuses (Wrong reason) meant h = ap reason_in h

-- ---- documentation

pub some_docs : (w : List ℕ) (docs : List (List ℕ)) → not (length docs == 0) ≡ true → wrong_docs w docs ≡ Some (DocumentedAlias w)
some_docs w [] e = absurd (cc)
some_docs w (line ∷ more) e = refl

pub no_docs : (w : List ℕ) (docs : List (List ℕ)) → not (length docs == 0) ≡ false → wrong_docs w docs ≡ None
no_docs w [] e = refl
no_docs w (line ∷ more) e = let zero_is : (length (line ∷ more) == 0) ≡ true = by (length (line ∷ more) == 0) e in
    let none : length (line ∷ more) ≡ 0 = eqb-true (length (line ∷ more)) 0 zero_is in
    absurd (omega arith)
  where
    by : (b : Bool) → not b ≡ false → b ≡ true
    by true e = refl
    by false e = absurd (cc)
