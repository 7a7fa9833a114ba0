-- What a run over the declarations of a file does.
--     OfFile Asked .. ending                what is known of the file, for a run and for a check
--     DidFile .. ending                     what was read and written, by how it ended
--     AnswersFile .. ending                 what is done where nothing fails
--     RunsFile .. ending                    all of this, each fact by its name
use Rattle.std.specs.Prelude.{◌≡◌, ◌≢◌, ◌⊎◌, ◌<◌, ◌≤◌, ℕ, Bool, List, ◌++◌, length, Option, Some}
use Rattle.meta_text.specs.Outside.{Rose, longest_input, GaveMore, GaveAtMost}
use Rattle.meta_build.specs.AllDeclared.{Declared, AreValid}
use Rattle.meta_run.specs.Run.{IsReadWhole, IsGiven, Runs, Ran as RanOver}
use Rattle.meta_run.specs.Ending.{code_of, written_as}
use Rattle.meta_run.specs.declared.ending.Ending.{Ending}
use Rattle.meta_run.specs.declared.ending.Ending.TheVariants as ends
use Rattle.meta_program.specs.Tool.{reads_input, texts_of}
use Rattle.meta_program.specs.File.{Declares, IsRefusal}
use Rattle.meta_program.specs.declared.tool.Tool.{Tool}
use Rattle.meta_program.specs.declared.file_run.FileEnding.{FileEnding}
use Rattle.meta_program.specs.declared.file_run.FileEnding.TheVariants.{Ran, NamesRefused, Refused, FileFault, FileTooLong}

-- the exit status of the process: that of the run; 1 if the file or its names are refused, 6 if it is too long, 8 if it can't be read
abbrev pub file_code : FileEnding → ℕ
file_code (Ran ending) = code_of ending
file_code NamesRefused = code_of ends.Refused
file_code (Refused message) = code_of ends.Refused
file_code FileFault = 8
file_code FileTooLong = code_of ends.TooLong

-- a file before and after a call: contracts see its text, which is within the limit, and no read of it failed
abbrev pub IsFileGiven : {F : Type 0} → (F → Option (List ℕ)) → (F → ℕ) → F → F → List ℕ → Type 0
IsFileGiven file_left file_reads f f' text =
    (file_left f ≡ Some text) × (length text ≤ longest_input) × (Rose (file_reads f) (file_reads f') → ⊥)

-- some tool is asked
abbrev pub IsAsked : (Tool → Type 0) → Type 0
IsAsked Means = (tool : Tool) × Means tool

-- ---- the file

-- the path; and a file, a source and a sink, by what contracts see of them, before and after a call that reads the file
module _ {F S K : Type 0} (file_left : F → Option (List ℕ)) (file_reads : F → ℕ) (path : List ℕ) (f f' : F) (s s' : S) (k k' : K) where
  -- nothing was read apart from the file, and nothing was written
  abbrev pub LeavesAll : Type 0
  LeavesAll = (s' ≡ s) × (k' ≡ k)

  -- the file was read whole, and the message says why it is refused
  pub record IsRefusedFile (message : List ℕ) : Type 0 where
    pub text : List ℕ
    pub read : IsReadWhole file_left f f' text
    pub refusal : IsRefusal path text message

  -- If the file makes no declarations, or some with a fault, memory didn't run out and no read of it failed, it is refused, and the
  -- message says what is wrong first.
  abbrev pub RefusesFile : FileEnding → Type 0
  RefusesFile ending =
      (text : List ℕ) → IsFileGiven file_left file_reads f f' text → ((d : Declared) → Declares text d → AreValid d → ⊥)
      → ending ≢ Ran ends.OutOfMemory
      → (message : List ℕ) × (ending ≡ Refused message) × IsRefusal path text message × LeavesAll

  -- A file that makes valid declarations isn't refused in this way.
  abbrev pub IsRefusedOnly : FileEnding → Type 0
  IsRefusedOnly ending =
      (message text : List ℕ) (d : Declared) → ending ≡ Refused message → file_left f ≡ Some text → Declares text d → AreValid d → ⊥

  -- If contracts see more bytes in the file than the limit, memory didn't run out and no read of it failed, it is too long, and nothing
  -- else was read or written.
  abbrev pub LeavesLongFile : FileEnding → Type 0
  LeavesLongFile ending =
      (text : List ℕ) → file_left f ≡ Some text → longest_input < length text → (Rose (file_reads f) (file_reads f') → ⊥)
      → ending ≢ Ran ends.OutOfMemory → (ending ≡ FileTooLong) × LeavesAll

  -- What is known of the file, if the call was asked to read it.
  pub record OfFile (Asked : Type 0) (ending : FileEnding) : Type 0 where
    -- A file that makes no valid declarations is refused, and only such a file.
    pub refuses : Asked → RefusesFile ending
    pub refused_only : IsRefusedOnly ending
    -- A file is too long exactly if it has more than the limit. Unless the ending is a fault of the file, no read of it failed. Its count
    -- of faults never falls.
    pub too_long : Asked → LeavesLongFile ending
    pub within : ending ≢ FileTooLong → GaveAtMost longest_input (file_left f) (file_left f')
    pub else_no_fault : ending ≢ FileFault → file_reads f' ≡ file_reads f
    pub counted : file_reads f ≤ file_reads f'

-- ---- a run of a tool

-- which tools are asked, the path and a text; and a source and a sink, by what contracts see of them, before and after a run over what the
-- text declares
module _ {S K : Type 0} (left : S → Option (List ℕ)) (reads : S → ℕ) (taken : K → Option (List ℕ)) (writes : K → ℕ)
    (Means : Tool → Type 0) (path text : List ℕ) (s s' : S) (k k' : K) where
  -- the text makes valid declarations, and a tool that is asked ran over them
  pub record RanText (ending : Ending) : Type 0 where
    pub declared : Declared
    pub declares : Declares text declared
    pub valid : AreValid declared
    pub tool : Tool
    pub asked : Means tool
    pub ran : RanOver left reads taken writes declared s s' k k' (reads_input tool) (texts_of tool) ending

  -- what was read and written for a text
  abbrev pub DidText : FileEnding → Type 0
  DidText (Ran ending) = RanText ending ⊎ ((ending ≡ ends.OutOfMemory) × (s' ≡ s) × (k' ≡ k))
  DidText NamesRefused = ⊥
  DidText (Refused message) = IsRefusal path text message × (s' ≡ s) × (k' ≡ k)
  DidText FileFault = ⊥
  DidText FileTooLong = ⊥

-- which tools are asked, and the path; and a file, a source and a sink, by what contracts see of them, before and after a run
module _ {F S K : Type 0} (file_left : F → Option (List ℕ)) (file_reads : F → ℕ) (left : S → Option (List ℕ)) (reads : S → ℕ)
    (taken : K → Option (List ℕ)) (writes : K → ℕ) (Means : Tool → Type 0) (path : List ℕ) (f f' : F) (s s' : S) (k k' : K) where
  -- nothing was read apart from the file, and nothing was written
  abbrev pub LeavesBoth : Type 0
  LeavesBoth = LeavesAll file_left file_reads path f f' s s' k k'

  -- the file was read whole, and a tool that is asked ran over what it declares
  pub record RanFile (ending : Ending) : Type 0 where
    pub text : List ℕ
    pub read : IsReadWhole file_left f f' text
    pub ran : RanText left reads taken writes Means path text s s' k k' ending

  -- What was read and written. If no tool is asked, not even the file was read.
  abbrev pub DidFile : FileEnding → Type 0
  DidFile (Ran ending) =
      RanFile ending
      ⊎ (((IsAsked Means → ⊥) × (ending ≡ ends.Usage) × (f' ≡ f) × LeavesBoth)
      ⊎ (IsAsked Means × (ending ≡ ends.OutOfMemory) × LeavesBoth))
  DidFile NamesRefused = ⊥
  DidFile (Refused message) = IsAsked Means × IsRefusedFile file_left file_reads path f f' s s' k k' message × LeavesBoth
  DidFile FileFault = IsAsked Means × Rose (file_reads f) (file_reads f') × LeavesBoth
  DidFile FileTooLong = IsAsked Means × GaveMore longest_input (file_left f) (file_left f') × LeavesBoth

  -- If the file makes valid declarations, a tool is asked, memory didn't run out and nothing failed, the sink took exactly a text that
  -- answers what is given over these declarations, and the ending says which.
  abbrev pub AnswersFile : FileEnding → Type 0
  AnswersFile ending =
      (text : List ℕ) (d : Declared) (tool : Tool) → IsFileGiven file_left file_reads f f' text → Declares text d → AreValid d → Means tool
      → ending ≢ Ran ends.OutOfMemory → (input before : List ℕ) → IsGiven left reads taken writes d s s' k k' (reads_input tool) input
      → taken k ≡ Some before → (Rose (writes k) (writes k') → ⊥)
      → (is_rejection : Bool) × (out : List ℕ) × texts_of tool d input is_rejection out × (ending ≡ Ran (written_as is_rejection))
      × (taken k' ≡ Some (before ++ out))

  -- a run over what the file declares is a run over these declarations, with all that is known of one
  pub record RunsDeclared (ending : Ending) : Type 0 where
    pub text : List ℕ
    pub read : IsReadWhole file_left f f' text
    pub declared : Declared
    pub declares : Declares text declared
    pub valid : AreValid declared
    pub runs : Runs left reads taken writes declared s s' k k' Means reads_input texts_of ending

  -- What is known of a run over a file that ended so. Each field is a fact that follows from the first.
  pub record RunsFile (ending : FileEnding) : Type 0 where
    -- What was read and written, by how it ended.
    pub did : DidFile ending
    pub runs : (how : Ending) → ending ≡ Ran how → how ≢ ends.Usage → how ≢ ends.OutOfMemory → RunsDeclared how
    -- If a file makes valid declarations, the words are answered over them.
    pub answers : AnswersFile ending
    pub file : OfFile file_left file_reads path f f' s s' k k' (IsAsked Means) ending
    -- Unless the ending is a fault of the source, no read of it failed.
    pub else_no_fault : ending ≢ Ran ends.ReadFault → reads s' ≡ reads s
    -- If no tool is asked, and only then, it is a usage error, whatever the file is.
    pub usage : ending ≡ Ran ends.Usage → IsAsked Means → ⊥
    pub no_words : (IsAsked Means → ⊥) → ending ≡ Ran ends.Usage
    -- Only a check refuses a file for its names.
    pub no_names : ending ≢ NamesRefused
