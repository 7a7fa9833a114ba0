-- What a run over declarations does, by how it ended.
--     Did .. ending          what was read and written
--     Ran .. ending          that, and what holds of each run
--     IsRun Means .. ending  the same for a program with words, and IsWordlessRun for one without
--     AnswersInput, WritesOutput, RefusesDeclarations, Completes      what a run does where nothing fails
--     Runs Means .. ending   all of this, each fact by its name, for a program with words, and RunsWordless for one without
use Rattle.std.specs.Prelude.{◌≡◌, ◌≢◌, ℕ, ◌≤◌, ◌⊎◌, ⊤, Bool, true, false, List, [], ◌∷◌, ◌++◌, length, codes, Option, Some}
use Rattle.meta_types.specs.Fault.{line_of}
use Rattle.meta_types.specs.declared.fault.DefinitionError.{DefinitionError}
use Rattle.meta_types.specs.declared.fault.DefinitionError.TheVariants as fault_of
use Rattle.meta_text.specs.Outside.{Rose, with_front, with_more, NothingLeft, longest_input, GaveMore, GaveAtMost, TookPart}
use Rattle.meta_build.specs.AllDeclared.{Declared, HasFirstFault, AreValid}
use Rattle.meta_run.specs.declared.ending.Ending.{Ending}
use Rattle.meta_run.specs.declared.ending.Ending.TheVariants.{Done, Refused, Usage, ReadFault, WriteFault, OutOfMemory, TooLong, Rejected}
use Rattle.meta_run.specs.Ending.{WritesNothing, written_as}

-- the text that is written if declarations are refused: `refused: `, the fault and LF
abbrev pub refusal : DefinitionError → List ℕ
refusal fault = codes "refused: " ++ (line_of fault ++ 10 ∷ [])

-- The texts that answer an input over declarations, each as an answer or, if the mark is true, as a rejection.
abbrev pub Texts : Type 1
Texts = Declared → List ℕ → Bool → List ℕ → Type 0

-- The texts that answer an input over declarations, in a program that rejects nothing.
abbrev pub Outputs : Type 1
Outputs = Declared → List ℕ → List ℕ → Type 0

-- these texts, each as an answer, and none as a rejection
abbrev pub never_rejecting : Outputs → Texts
never_rejecting outputs d input false text = outputs d input text
never_rejecting outputs d input true text = ⊥

-- a count that never rises
abbrev pub NeverRises : {X : Type 0} → (X → ℕ) → Type 0
NeverRises count = (before after : _) → Rose (count before) (count after) → ⊥

-- ---- the declarations are refused

-- the declarations are refused by their first fault, and the sink took the line that says so
pub record IsRefusedWhole (d : Declared) (taken taken' : Option (List ℕ)) : Type 0 where
  pub fault : DefinitionError
  pub first : HasFirstFault d fault
  pub took : taken' ≡ with_more taken (refusal fault)

-- the sink took a part of that line, and not all
pub record IsRefusedInPart (d : Declared) (taken taken' : Option (List ℕ)) : Type 0 where
  pub fault : DefinitionError
  pub first : HasFirstFault d fault
  pub took : TookPart (refusal fault) taken taken'

-- what the refusal of declarations by a fault wrote, by how it ended
abbrev pub Refuses : {K : Type 0} → (K → Option (List ℕ)) → (K → ℕ) → DefinitionError → K → K → Ending → Type 0
Refuses taken writes fault k k' Refused = (fault ≢ fault_of.OutOfMemory) × (taken k' ≡ with_more (taken k) (refusal fault))
Refuses taken writes fault k k' WriteFault = (fault ≢ fault_of.OutOfMemory) × Rose (writes k) (writes k')
    × TookPart (refusal fault) (taken k) (taken k')
Refuses taken writes fault k k' OutOfMemory = k' ≡ k
Refuses taken writes fault k k' Done = ⊥
Refuses taken writes fault k k' Usage = ⊥
Refuses taken writes fault k k' ReadFault = ⊥
Refuses taken writes fault k k' TooLong = ⊥
Refuses taken writes fault k k' Rejected = ⊥

-- ---- the input is read

-- all that the source had left was read, up to its end
pub record IsReadWhole {S : Type 0} (left : S → Option (List ℕ)) (s s' : S) (input : List ℕ) : Type 0 where
  pub read : left s ≡ with_front input (left s')
  pub end : NothingLeft (left s')
  pub within : length input ≤ longest_input

-- if the mark says that a run has an input, it is all that the source had left; otherwise it is empty, and the source isn't read
abbrev pub IsInput : {S : Type 0} → (S → Option (List ℕ)) → Bool → S → S → List ℕ → Type 0
IsInput left true s s' input = IsReadWhole left s s' input
IsInput left false s s' input = (input ≡ []) × (s' ≡ s)

-- ---- the input is answered

-- a source and a sink, by what contracts see of them, before and after a run over declarations
module _ {S K : Type 0} (left : S → Option (List ℕ)) (reads : S → ℕ) (taken : K → Option (List ℕ)) (writes : K → ℕ)
    (d : Declared) (s s' : S) (k k' : K) where
  -- the declarations are valid, the input was read, and the sink took a text whole that answers it
  pub record IsAnsweredWhole (has_input : Bool) (texts : Texts) (is_rejection : Bool) : Type 0 where
    pub valid : AreValid d
    pub input : List ℕ
    pub text : List ℕ
    pub read : IsInput left has_input s s' input
    pub answers : texts d input is_rejection text
    pub took : taken k' ≡ with_more (taken k) text

  -- the same, and the sink took a part of the text, and not all
  pub record IsAnsweredInPart (has_input : Bool) (texts : Texts) : Type 0 where
    pub valid : AreValid d
    pub input : List ℕ
    pub is_rejection : Bool
    pub text : List ℕ
    pub read : IsInput left has_input s s' input
    pub answers : texts d input is_rejection text
    pub took : TookPart text (taken k) (taken k')

  -- The sink took a part of the text, and not all of it: of the line that refuses the declarations, and then nothing was read, or of a text
  -- that answers the input.
  abbrev pub IsCutShort : Bool → Texts → Type 0
  IsCutShort has_input texts = ((s' ≡ s) × IsRefusedInPart d (taken k) (taken k')) ⊎ IsAnsweredInPart has_input texts

  -- What was read and written, by how the run ended. The mark says whether the answerer has an input.
  abbrev pub Did : Bool → Texts → Ending → Type 0
  Did has_input texts Done = IsAnsweredWhole has_input texts false
  Did has_input texts Rejected = IsAnsweredWhole has_input texts true
  Did has_input texts Refused = (s' ≡ s) × IsRefusedWhole d (taken k) (taken k')
  Did has_input texts Usage = ⊥
  Did has_input texts ReadFault = (has_input ≡ true) × AreValid d × Rose (reads s) (reads s') × (k' ≡ k)
  Did has_input texts WriteFault = Rose (writes k) (writes k') × IsCutShort has_input texts
  Did has_input texts OutOfMemory = k' ≡ k
  Did has_input texts TooLong = (has_input ≡ true) × AreValid d × GaveMore longest_input (left s) (left s') × (k' ≡ k)

  -- the same; and unless the ending says so, no more was read than may be, and no read failed; without an input nothing was read; and no
  -- count fell
  pub record Ran (has_input : Bool) (texts : Texts) (ending : Ending) : Type 0 where
    pub did : Did has_input texts ending
    pub else_within : ending ≢ TooLong → GaveAtMost longest_input (left s) (left s')
    pub else_no_fault : ending ≢ ReadFault → reads s' ≡ reads s
    pub unread : has_input ≡ false → s' ≡ s
    pub read_counted : reads s ≤ reads s'
    pub write_counted : writes k ≤ writes k'

  -- For a program whose words mean one of W: if they mean something, the run is that of what they mean. If they mean nothing, and only
  -- then, it is a usage error, and nothing was read or written.
  abbrev pub IsRun : {W : Type 0} → (W → Type 0) → (W → Bool) → (W → Texts) → Ending → Type 0
  IsRun Means has_input texts ending =
      ((w : _) × Means w × Ran (has_input w) (texts w) ending)
      ⊎ (((w : _) → Means w → ⊥) × (ending ≡ Usage) × (s' ≡ s) × (k' ≡ k))

  -- For a program without words, which has an input: the run is that. If there are words, it is a usage error.
  abbrev pub IsWordlessRun : List (List ℕ) → Texts → Ending → Type 0
  IsWordlessRun words texts ending = IsRun (λ (_ : ⊤). words ≡ []) (λ _. true) (λ _. texts) ending

  -- ---- where nothing fails

  -- What is to be answered, where nothing fails: all bytes that contracts see in the source, at most the limit, or no bytes.
  abbrev pub IsGiven : Bool → List ℕ → Type 0
  IsGiven true input = (left s ≡ Some input) × (length input ≤ longest_input) × (Rose (reads s) (reads s') → ⊥)
  IsGiven false input = input ≡ []

  -- If the declarations are valid, memory didn't run out and no write failed, the sink took exactly a text that answers what is given, and
  -- the ending says which.
  abbrev pub AnswersInput : Bool → Texts → Ending → Type 0
  AnswersInput has_input texts ending =
      AreValid d → ending ≢ OutOfMemory → (input before : List ℕ) → IsGiven has_input input → taken k ≡ Some before
      → (Rose (writes k) (writes k') → ⊥)
      → (is_rejection : Bool) × (text : List ℕ) × texts d input is_rejection text × (ending ≡ written_as is_rejection)
      × (taken k' ≡ Some (before ++ text))

  -- The same for a program that rejects nothing: the run is done, and the sink took exactly a text that answers.
  abbrev pub WritesOutput : Bool → Outputs → Ending → Type 0
  WritesOutput has_input outputs ending =
      AreValid d → ending ≢ OutOfMemory → (input before : List ℕ) → IsGiven has_input input → taken k ≡ Some before
      → (Rose (writes k) (writes k') → ⊥)
      → (ending ≡ Done) × (text : List ℕ) × outputs d input text × (taken k' ≡ Some (before ++ text))

  -- If the declarations have a fault, memory didn't run out and no write failed, the declarations are refused, and the sink took exactly
  -- the line that says so, by the first fault.
  abbrev pub RefusesDeclarations : Ending → Type 0
  RefusesDeclarations ending =
      (e : DefinitionError) → HasFirstFault d e → ending ≢ OutOfMemory → (before : List ℕ) → taken k ≡ Some before
      → (Rose (writes k) (writes k') → ⊥)
      → (ending ≡ Refused) × (taken k' ≡ Some (before ++ refusal e))

  -- If the declarations are valid, and neither a read nor a write failed, a text was written whole, unless memory ran out, or there is an
  -- input and the source gave more than the limit. This holds of any source and sink, not only of those in memory.
  abbrev pub Completes : Bool → Ending → Type 0
  Completes has_input ending =
      AreValid d → (Rose (reads s) (reads s') → ⊥) → (Rose (writes k) (writes k') → ⊥)
      → ((is_rejection : Bool) × (ending ≡ written_as is_rejection))
      ⊎ ((ending ≡ OutOfMemory) ⊎ ((ending ≡ TooLong) × (has_input ≡ true) × GaveMore longest_input (left s) (left s')))

  -- ---- a program

  -- A program whose words mean one of W ran, and ended so. It has an input if the mark is true for what they mean. Each field is a fact
  -- that follows from the first.
  pub record Runs {W : Type 0} (Means : W → Type 0) (has_input : W → Bool) (texts : W → Texts) (ending : Ending) : Type 0 where
    -- What was read and written, by how it ended.
    pub run : IsRun Means has_input texts ending
    -- Over valid declarations, what the words ask is answered. Other declarations are refused.
    pub answers : (w : W) → Means w → AnswersInput (has_input w) (texts w) ending
    pub refuses : (w : W) → Means w → RefusesDeclarations ending
    pub complete : (w : W) → Means w → Completes (has_input w) ending
    -- The words decide whether the ending is a usage error.
    pub usage : ending ≡ Usage → (w : W) → Means w → ⊥
    pub no_words : ((w : W) → Means w → ⊥) → ending ≡ Usage
    -- At each other ending the words mean something. The answer or the rejection was written whole, or the line that refuses.
    pub done : ending ≡ Done → (w : W) × Means w × IsAnsweredWhole (has_input w) (texts w) false
    pub rejected : ending ≡ Rejected → (w : W) × Means w × IsAnsweredWhole (has_input w) (texts w) true
    pub refused : ending ≡ Refused → (w : W) × Means w × IsRefusedWhole d (taken k) (taken k')
    -- A fault is an ending only where a read or a write failed, and a too long input only where more than the limit was given. At another
    -- ending no read failed, and no more was given.
    pub read_fault : ending ≡ ReadFault → (w : W) × Means w × (has_input w ≡ true) × AreValid d × Rose (reads s) (reads s')
    pub else_no_fault : ending ≢ ReadFault → reads s' ≡ reads s
    pub write_fault : ending ≡ WriteFault → (w : W) × Means w × Rose (writes k) (writes k')
    pub written_in_part : ending ≡ WriteFault → (w : W) × Means w × IsCutShort (has_input w) (texts w)
    pub too_long : ending ≡ TooLong
        → (w : W) × Means w × (has_input w ≡ true) × AreValid d × GaveMore longest_input (left s) (left s')
    pub else_within : ending ≢ TooLong → GaveAtMost longest_input (left s) (left s')
    -- What stays as it was: the sink if nothing was written; the source after a usage error, if the declarations are refused, and for words
    -- that have no input. No count falls.
    pub untouched : WritesNothing ending → k' ≡ k
    pub usage_unread : ending ≡ Usage → s' ≡ s
    pub refused_unread : ending ≡ Refused → s' ≡ s
    pub unread : (w : W) → Means w → has_input w ≡ false → s' ≡ s
    pub read_counted : reads s ≤ reads s'
    pub write_counted : writes k ≤ writes k'
    -- If the source never fails, the ending is no fault of it. The same holds for the sink.
    pub unfailing_source : NeverRises reads → ending ≢ ReadFault
    pub unfailing_sink : NeverRises writes → ending ≢ WriteFault

  -- The same for a program without words, which has an input.
  abbrev pub RunsWordless : List (List ℕ) → Texts → Ending → Type 0
  RunsWordless words texts ending = Runs (λ (_ : ⊤). words ≡ []) (λ _. true) (λ _. texts) ending
