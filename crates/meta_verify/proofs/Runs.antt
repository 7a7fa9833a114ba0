-- What a run says of the lines.
use Rattle.std.proofs.Common.{◌≡◌, ◌⊎◌, inl, inr, ℕ, Bool, true, false, List, ◌++◌, Option, Some, subst}
use Rattle.meta_types.specs.declared.fault.DefinitionError.{DefinitionError}
use Rattle.meta_build.specs.AllDeclared.{Declared, HasFirstFault, AreValid}
use Rattle.meta_run.specs.Ending.{written_as}
use Rattle.meta_run.specs.declared.ending.Ending.{Ending}
use Rattle.meta_run.specs.Run.{IsWordlessRun}
use Rattle.meta_run.proofs.Programs as lemma
use Rattle.meta_verify.specs.Verifier.{verdicts, SaysRight, SaysWrong, ChecksLines}

module _ {S K : Type 0} {left : S → Option (List ℕ)} {reads : S → ℕ} {taken : K → Option (List ℕ)} {writes : K
    → ℕ} {d : Declared} {s s' : S} {k k' : K} {words : List (List ℕ)} {ending : Ending}
    (run : IsWordlessRun left reads taken writes d s s' k k' words verdicts ending) (no_fault : (e : DefinitionError)
    → AreValid d → HasFirstFault d e → ⊥) where
  said : (input before : List ℕ)
      → ((is_rejection : Bool) × (text : List ℕ) × verdicts d input is_rejection text
      × (ending ≡ written_as is_rejection) × (taken k' ≡ Some (before ++ text)))
      → SaysRight left reads taken writes d s s' k k' input before ending
      ⊎ SaysWrong left reads taken writes d s s' k k' input before ending
  said input before (false, text, (right, is), e, took) = inl (e, right, subst (λ t. taken k' ≡ Some (before ++ t)) is took)
  said input before (true, text, (n, reason, first, is), e, took) =
      inr (e, n, reason, first, subst (λ t. taken k' ≡ Some (before ++ t)) is took)

  pub headline : ChecksLines left reads taken writes d s s' k k' words ending
  headline none valid memory input before there few no_read taken_is no_write =
      said input before (lemma.answers run lemma.no_other no_fault tt none valid memory input before
      (there, few, no_read) taken_is no_write)
