-- What a check of a file does.
--     DidCheck .. ending messages      what was read and written, and which messages there are, by how it ended
use Rattle.std.specs.Prelude.{◌≡◌, ◌≢◌, ◌⊎◌, ℕ, List, [], Option, false}
use Rattle.meta_text.specs.Outside.{Rose, longest_input, GaveMore}
use Rattle.meta_build.specs.AllDeclared.{Declared, AreValid}
use Rattle.meta_run.specs.Run.{IsReadWhole, Ran as RanOver, never_rejecting}
use Rattle.meta_run.specs.declared.ending.Ending.{Ending}
use Rattle.meta_run.specs.declared.ending.Ending.TheVariants as ends
use Rattle.meta_program.specs.File.{Declares, IsRefusal}
use Rattle.meta_program.specs.Tool.{says_counts}
use Rattle.meta_program.specs.Told.{AreTold}
use Rattle.meta_program.specs.declared.plan.Names.{Names}
use Rattle.meta_program.specs.declared.plan.Names.TheVariants.{Refuse}
use Rattle.meta_program.specs.declared.file_run.FileEnding.{FileEnding}
use Rattle.meta_program.specs.declared.file_run.FileEnding.TheVariants.{Ran, NamesRefused, Refused, FileFault, FileTooLong}

-- the path, what is asked of names and a text; and a source and a sink, by what contracts see of them, before and after a check of the text
module _ {S K : Type 0} (left : S → Option (List ℕ)) (reads : S → ℕ) (taken : K → Option (List ℕ)) (writes : K → ℕ)
    (path : List ℕ) (names : Names) (text : List ℕ) (s s' : S) (k k' : K) where
  -- there are no messages of names, nothing was read apart from the file, and nothing was written
  abbrev pub LeavesAll : List (List ℕ) → Type 0
  LeavesAll messages = (messages ≡ []) × (s' ≡ s) × (k' ≡ k)

  -- the text makes valid declarations, these are the messages of its names, of which there are none if names are refused, and what is
  -- declared was counted
  pub record IsChecked (ending : Ending) (messages : List (List ℕ)) : Type 0 where
    pub declared : Declared
    pub declares : Declares text declared
    pub valid : AreValid declared
    pub told : AreTold path names text declared messages
    pub none : names ≡ Refuse → messages ≡ []
    pub ran : RanOver left reads taken writes declared s s' k k' false (never_rejecting says_counts) ending

  -- the text makes valid declarations, and has names, of which these are the messages
  pub record HasNames (messages : List (List ℕ)) : Type 0 where
    pub declared : Declared
    pub declares : Declares text declared
    pub valid : AreValid declared
    pub told : AreTold path names text declared messages
    pub some : messages ≢ []

  -- what a check of the text did
  abbrev pub DidCheckText : FileEnding → List (List ℕ) → Type 0
  DidCheckText (Ran ending) messages = IsChecked ending messages ⊎ ((ending ≡ ends.OutOfMemory) × LeavesAll messages)
  DidCheckText NamesRefused messages = (names ≡ Refuse) × HasNames messages × (s' ≡ s) × (k' ≡ k)
  DidCheckText (Refused message) messages = IsRefusal path text message × LeavesAll messages
  DidCheckText FileFault messages = ⊥
  DidCheckText FileTooLong messages = ⊥

-- the path and what is asked of names; and a file, a source and a sink, by what contracts see of them, before and after a check of the file
module _ {F S K : Type 0} (file_left : F → Option (List ℕ)) (file_reads : F → ℕ) (left : S → Option (List ℕ)) (reads : S → ℕ)
    (taken : K → Option (List ℕ)) (writes : K → ℕ) (path : List ℕ) (names : Names) (f f' : F) (s s' : S) (k k' : K) where
  -- the file was read whole, and this is what a check of its text did
  pub record IsCheckedFile (ending : FileEnding) (messages : List (List ℕ)) : Type 0 where
    pub text : List ℕ
    pub read : IsReadWhole file_left f f' text
    pub did : DidCheckText left reads taken writes path names text s s' k k' ending messages

  -- What was read and written. Memory may have run out as the file was read.
  abbrev pub DidCheck : FileEnding → List (List ℕ) → Type 0
  DidCheck (Ran ending) messages =
      IsCheckedFile (Ran ending) messages ⊎ ((ending ≡ ends.OutOfMemory) × (messages ≡ []) × (s' ≡ s) × (k' ≡ k))
  DidCheck NamesRefused messages = IsCheckedFile NamesRefused messages
  DidCheck (Refused message) messages = IsCheckedFile (Refused message) messages
  DidCheck FileFault messages = Rose (file_reads f) (file_reads f') × (messages ≡ []) × (s' ≡ s) × (k' ≡ k)
  DidCheck FileTooLong messages = GaveMore longest_input (file_left f) (file_left f') × (messages ≡ []) × (s' ≡ s) × (k' ≡ k)
