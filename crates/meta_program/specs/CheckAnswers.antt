-- What is known of a check of a file.
--     AnswersCheck .. ending messages           what is done where nothing fails
--     AreNamesRefusedOnly .. ending messages    when a file is refused for its names
--     Completes .. ending                       how it ends where nothing fails, for any file and sink
--     WritesNothing ending                      after which endings nothing was written
--     RunsCheck .. ending messages              all of this, each fact by its name
use Rattle.std.specs.Prelude.{◌≡◌, ◌≢◌, ◌⊎◌, ⊤, ℕ, List, [], ◌++◌, Option, Some}
use Rattle.meta_text.specs.Outside.{Rose, longest_input, GaveMore}
use Rattle.meta_build.specs.AllDeclared.{Declared, AreValid}
use Rattle.meta_run.specs.declared.ending.Ending.{Ending}
use Rattle.meta_run.specs.declared.ending.Ending.TheVariants as ends
use Rattle.meta_program.specs.Counts.{IsCheckLine}
use Rattle.meta_program.specs.File.{Declares}
use Rattle.meta_program.specs.FileRun.{IsFileGiven, OfFile}
use Rattle.meta_program.specs.Told.{AreTold}
use Rattle.meta_program.specs.Checked.{DidCheck}
use Rattle.meta_program.specs.declared.plan.Names.{Names}
use Rattle.meta_program.specs.declared.plan.Names.TheVariants.{Warn, Refuse}
use Rattle.meta_program.specs.declared.file_run.FileEnding.{FileEnding}
use Rattle.meta_program.specs.declared.file_run.FileEnding.TheVariants.{Ran, NamesRefused, Refused, FileFault, FileTooLong}

-- the count was written, or the file or its names are refused
abbrev pub IsAnswer : FileEnding → Type 0
IsAnswer (Ran ending) = ending ≡ ends.Done
IsAnswer NamesRefused = ⊤
IsAnswer (Refused message) = ⊤
IsAnswer FileFault = ⊥
IsAnswer FileTooLong = ⊥

-- after these endings nothing was written
abbrev pub WritesNothing : FileEnding → Type 0
WritesNothing (Ran ending) = ending ≡ ends.OutOfMemory
WritesNothing NamesRefused = ⊤
WritesNothing (Refused message) = ⊤
WritesNothing FileFault = ⊤
WritesNothing FileTooLong = ⊤

-- after these endings there may be messages of names
abbrev pub TellsNames : FileEnding → Type 0
TellsNames (Ran ending) = ⊤
TellsNames NamesRefused = ⊤
TellsNames (Refused message) = ⊥
TellsNames FileFault = ⊥
TellsNames FileTooLong = ⊥

-- the path and what is asked of names; and a file, a source and a sink, by what contracts see of them, before and after a check of the file
module _ {F S K : Type 0} (file_left : F → Option (List ℕ)) (file_reads : F → ℕ) (left : S → Option (List ℕ)) (reads : S → ℕ)
    (taken : K → Option (List ℕ)) (writes : K → ℕ) (path : List ℕ) (names : Names) (f f' : F) (s s' : S) (k k' : K) where
  -- names are to be refused, and there are some: the file is refused with these messages, and nothing was written
  pub record AreNamesRefused (messages : List (List ℕ)) (ending : FileEnding) : Type 0 where
    pub asked : names ≡ Refuse
    pub some : messages ≢ []
    pub is : ending ≡ NamesRefused
    pub source : s' ≡ s
    pub sink : k' ≡ k

  -- no names are to be refused, or there are none: these messages, as warnings, say all of them. Unless a write failed, the check is done,
  -- and the sink took exactly the line that counts what is declared
  pub record IsCounted (d : Declared) (messages : List (List ℕ)) (ending : FileEnding) : Type 0 where
    pub passed : (names ≡ Warn) ⊎ (messages ≡ [])
    pub how : Ending
    pub is : ending ≡ Ran how
    pub wrote : (before : List ℕ) → taken k ≡ Some before → (Rose (writes k) (writes k') → ⊥)
        → (how ≡ ends.Done) × (line : List ℕ) × IsCheckLine d line × (taken k' ≡ Some (before ++ line))

  -- If the file makes valid declarations, memory didn't run out and no read of it failed, there is a message for each of its names that
  -- Rust refuses. If these are to be refused and there are some, the file is refused for them, and otherwise what is declared is counted.
  abbrev pub AnswersCheck : FileEnding → List (List ℕ) → Type 0
  AnswersCheck ending messages =
      (text : List ℕ) (d : Declared) → IsFileGiven file_left file_reads f f' text → Declares text d → AreValid d
      → ending ≢ Ran ends.OutOfMemory
      → AreTold path names text d messages × (AreNamesRefused messages ending ⊎ IsCounted d messages ending)

  -- Names are refused only if they are to be refused, and the file makes valid declarations with such names. The messages say all of them.
  abbrev pub AreNamesRefusedOnly : FileEnding → List (List ℕ) → Type 0
  AreNamesRefusedOnly ending messages =
      (text : List ℕ) → ending ≡ NamesRefused → file_left f ≡ Some text
      → (names ≡ Refuse) × (messages ≢ []) × (d : Declared) × Declares text d × AreValid d × AreTold path names text d messages

  -- If no read of the file and no write failed, what is declared was counted, or the file or its names are refused, unless memory ran out,
  -- or the file gave more than the limit. This holds of any file and sink, not only of those in memory.
  abbrev pub Completes : FileEnding → Type 0
  Completes ending =
      (Rose (file_reads f) (file_reads f') → ⊥) → (Rose (writes k) (writes k') → ⊥)
      → IsAnswer ending
      ⊎ ((ending ≡ Ran ends.OutOfMemory) ⊎ ((ending ≡ FileTooLong) × GaveMore longest_input (file_left f) (file_left f')))

  -- What is known of a check that ended so, with these messages of names. Each field is a fact that follows from the first.
  pub record RunsCheck (ending : FileEnding) (messages : List (List ℕ)) : Type 0 where
    -- What was read and written, and which messages there are, by how it ended.
    pub did : DidCheck file_left file_reads left reads taken writes path names f f' s s' k k' ending messages
    -- If a file makes valid declarations, they are counted, or the file is refused for its names, and then alone.
    pub answers : AnswersCheck ending messages
    pub names_refused_only : AreNamesRefusedOnly ending messages
    pub file : OfFile file_left file_reads path f f' s s' k k' ⊤ ending
    -- If nothing fails, there is an answer, for any file and sink.
    pub complete : Completes ending
    -- The source isn't read. Nothing is written if memory runs out, the file isn't read whole, or it or its names are refused. Only names
    -- have messages here.
    pub unread : s' ≡ s
    pub untouched : WritesNothing ending → k' ≡ k
    pub untold : (TellsNames ending → ⊥) → messages ≡ []
