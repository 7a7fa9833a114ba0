-- What a run does that checks a list of lines over declarations.
--     ChecksLines      what it says where nothing fails
use Rattle.std.specs.Prelude.{◌≡◌, ◌≢◌, ℕ, ◌+◌, ◌≤◌, ◌⊎◌, List, [], ◌++◌, length, Option, Some}
use Rattle.meta_text.specs.Outside.{Rose, longest_input}
use Rattle.meta_build.specs.AllDeclared.{Declared, AreValid}
use Rattle.meta_lines.specs.Lines.{lines_of}
use Rattle.meta_gen.specs.Reply.{AcceptedReply}
use Rattle.meta_run.specs.Run.{Texts}
use Rattle.meta_run.specs.declared.ending.Ending.{Ending}
use Rattle.meta_run.specs.declared.ending.Ending.TheVariants.{Done, OutOfMemory, Rejected}
use Rattle.meta_verify.specs.Verdict.{right_text, wrong_text, AreRight, IsFirstWrong, IsVerdict}
use Rattle.meta_verify.specs.declared.reason.Reason.{Reason}

-- the text on an input over declarations, as they mean
abbrev pub verdicts : Texts
verdicts d input is_rejection text = IsVerdict (AcceptedReply d.set) input is_rejection text

-- a source and a sink, by what contracts see of them, before and after a run over declarations
module _ {S K : Type 0} (left : S → Option (List ℕ)) (reads : S → ℕ) (taken : K → Option (List ℕ)) (writes : K → ℕ)
    (d : Declared) (s s' : S) (k k' : K) where
  -- the run is done, no line of the input is wrong, and the sink took exactly `ok`
  abbrev pub SaysRight : List ℕ → List ℕ → Ending → Type 0
  SaysRight input before ending = (ending ≡ Done) × AreRight (AcceptedReply d.set) (lines_of input)
      × (taken k' ≡ Some (before ++ right_text))

  -- the input is rejected, and the sink took exactly which line is the first wrong one, and why
  abbrev pub SaysWrong : List ℕ → List ℕ → Ending → Type 0
  SaysWrong input before ending =
      (ending ≡ Rejected) × (n : ℕ) × (reason : Reason) × IsFirstWrong (AcceptedReply d.set) (lines_of input) n reason
      × (taken k' ≡ Some (before ++ wrong_text (n + 1) reason))

  -- If there are no words and the declarations are valid, memory didn't run out, contracts see the bytes of the source, which are at most
  -- the limit, and those that the sink had taken, and no count rose, then one of the two is said of the bytes that were left.
  abbrev pub ChecksLines : List (List ℕ) → Ending → Type 0
  ChecksLines words ending =
      words ≡ [] → AreValid d → ending ≢ OutOfMemory → (input before : List ℕ)
      → left s ≡ Some input → length input ≤ longest_input → (Rose (reads s) (reads s') → ⊥) → taken k ≡ Some before
      → (Rose (writes k) (writes k') → ⊥)
      → SaysRight input before ending ⊎ SaysWrong input before ending
