-- What a run writes.
use Rattle.std.proofs.Common.{◌≡◌, ◌⊎◌, inl, inr, ℕ, Bool, true, false, List, [], ◌∷◌, ◌++◌, Option, Some, codes, refl, sym, ◌∙◌, subst}
use Rattle.meta_types.specs.declared.fault.DefinitionError.{DefinitionError}
use Rattle.meta_build.specs.AllDeclared.{Declared, HasFirstFault, AreValid}
use Rattle.meta_lines.specs.Lines.{lines_of}
use Rattle.meta_run.specs.Ending.{written_as}
use Rattle.meta_run.specs.declared.ending.Ending.{Ending}
use Rattle.meta_run.specs.declared.ending.Ending.TheVariants.{Done}
use Rattle.meta_run.specs.Run.{IsRun}
use Rattle.meta_run.proofs.Programs as lemma
use Rattle.meta_verify.specs.Verifier.{SaysWrong}
use Rattle.meta_asm.specs.Listing.{text_of_lines, filled}
use Rattle.meta_asm.specs.Form.{words_for, written_in}
use Rattle.meta_asm.specs.declared.form.Form.{Form}
use Rattle.meta_asm.specs.declared.form.Form.TheVariants.{Short, Explicit}
use Rattle.meta_asm.specs.Assembler.{NothingFails, WritesShortForms, WritesLines, SaysUnread, ShortensList, SpellsList, WritesBack}
use Rattle.meta_asm.proofs.BackLemmas.{back_by_declarations}

-- the words ask for at most one form
pub one_form : {words : List (List ℕ)} (a b : Form) → words ≡ words_for a → words ≡ words_for b → a ≡ b
one_form Short Short e f = refl
one_form Short Explicit e f = let same : codes "short" ∷ [] ≡ codes "explicit" ∷ [] = sym e ∙ f in absurd (cc)
one_form Explicit Short e f = let same : codes "explicit" ∷ [] ≡ codes "short" ∷ [] = sym e ∙ f in absurd (cc)
one_form Explicit Explicit e f = refl

module _ {S K : Type 0} {left : S → Option (List ℕ)} {reads : S → ℕ} {taken : K → Option (List ℕ)} {writes : K
    → ℕ} {d : Declared} {s s' : S} {k k' : K} {words : List (List ℕ)} {ending : Ending}
    (run : IsRun left reads taken writes d s s' k k' (λ (form : Form). words ≡ words_for form) (λ _. true) written_in ending)
    (no_fault : (e : DefinitionError) → AreValid d → HasFirstFault d e → ⊥) where
  -- the text that was written, where nothing fails
  said : (form : Form) → words ≡ words_for form → AreValid d → (input before : List ℕ)
      → NothingFails left reads taken writes d s s' k k' input before ending
      → (is_rejection : Bool) × (text : List ℕ) × written_in form d input is_rejection text × (ending ≡ written_as is_rejection)
      × (taken k' ≡ Some (before ++ text))
  said form asks valid input before (memory, given, taken_is, no_write) =
      lemma.answers run one_form no_fault form asks valid memory input before given taken_is no_write

  pub shortens : ShortensList left reads taken writes d s s' k k' words ending
  shortens asks valid input before given = by (said Short asks valid input before given)
    where
      by : ((is_rejection : Bool) × (text : List ℕ) × written_in Short d input is_rejection text × (ending ≡ written_as is_rejection)
          × (taken k' ≡ Some (before ++ text))) → WritesShortForms left reads taken writes d s s' k k' input before ending
          ⊎ SaysWrong left reads taken writes d s s' k k' input before ending
      by (false, text, (texts, short, is), e, took) = inl (e, texts, short, subst (λ t. taken k' ≡ Some (before ++ t)) is took)
      by (true, text, (n, reason, first, is), e, took) = inr (e, n, reason, first, subst (λ t. taken k' ≡ Some (before ++ t)) is took)

  pub spells : SpellsList left reads taken writes d s s' k k' words ending
  spells asks valid input before given = by (said Explicit asks valid input before given)
    where
      by : ((is_rejection : Bool) × (text : List ℕ) × written_in Explicit d input is_rejection text × (ending ≡ written_as is_rejection)
          × (taken k' ≡ Some (before ++ text))) → WritesLines left reads taken writes d s s' k k' input before ending
          ⊎ SaysUnread left reads taken writes d s s' k k' input before ending
      by (false, text, (lines, reads, is), e, took) = inl (e, lines, reads, subst (λ t. taken k' ≡ Some (before ++ t)) is took)
      by (true, text, (n, first, is), e, took) = inr (e, n, first, subst (λ t. taken k' ≡ Some (before ++ t)) is took)

  pub writes_back : WritesBack left reads taken writes d s s' k k' words ending
  writes_back asks valid list input before short given = by (said Explicit asks valid input before given)
    where
      back : (is_rejection : Bool) (text : List ℕ) → written_in Explicit d input is_rejection text
          → (is_rejection ≡ false) × (text ≡ text_of_lines (filled (lines_of list)))
      back is_rejection text = (back_by_declarations d.set valid.set list input short is_rejection text).0

      by : ((is_rejection : Bool) × (text : List ℕ) × written_in Explicit d input is_rejection text × (ending ≡ written_as is_rejection)
          × (taken k' ≡ Some (before ++ text))) → (ending ≡ Done) × (taken k' ≡ Some (before ++ text_of_lines (filled (lines_of list))))
      by (false, text, spelled, e, took) = (e, subst (λ t. taken k' ≡ Some (before ++ t)) (back false text spelled).1 took)
      by (true, text, spelled, e, took) = (let no : true ≡ false = (back true text spelled).0 in absurd (cc))
