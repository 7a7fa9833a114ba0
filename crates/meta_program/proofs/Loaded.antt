-- What is known of the file of a run or a check, by what was done with it.
use Rattle.std.proofs.Common.{◌≡◌, ◌≢◌, ◌⊎◌, ◌<◌, ◌≤◌, inl, inr, ℕ, List, [], ◌++◌, length, length-append, Option, None, Some, refl}
use Rattle.std.proofs.Common.{sym, ap, ◌∙◌, subst, arith}
use Rattle.std.proofs.lemmas.List.{append-nil}
use Rattle.meta_text.specs.Outside.{Rose, with_front, NothingLeft, longest_input, GaveMore, GaveAtMost}
use Rattle.meta_build.specs.AllDeclared.{Declared, AreValid}
use Rattle.meta_run.specs.Run.{IsReadWhole}
use Rattle.meta_run.specs.declared.ending.Ending.TheVariants as ends
use Rattle.meta_program.specs.File.{Declares, IsRefusal}
use Rattle.meta_program.specs.FileRun.{LeavesAll, IsRefusedFile, RefusesFile, LeavesLongFile, OfFile}
use Rattle.meta_program.specs.declared.file_run.FileEnding.{FileEnding}
use Rattle.meta_program.specs.declared.file_run.FileEnding.TheVariants.{Ran, NamesRefused, Refused, FileFault, FileTooLong}

-- what was read is all that was left, if contracts see the bytes and nothing is left now
read_all : (input bytes : List ℕ) (left' : Option (List ℕ)) → Some input ≡ with_front bytes left' → NothingLeft left' → bytes ≡ input
read_all input bytes None e end = absurd (cc)
read_all input bytes (Some rest) e end =
    let whole : input ≡ bytes ++ rest = cc in
    sym (whole ∙ ap (λ r. bytes ++ r) end ∙ append-nil bytes)

-- the text that was read of a file is the one that was given
pub same_text : {F : Type 0} (file_left : F → Option (List ℕ)) (f f' : F) (text bytes : List ℕ) → file_left f ≡ Some text
    → IsReadWhole file_left f f' bytes → bytes ≡ text
same_text file_left f f' text bytes told read = read_all text bytes (file_left f') (sym told ∙ read.read) read.end

-- a source doesn't give more than it had
pub gave_within : (input : List ℕ) (left left' : Option (List ℕ)) → left ≡ Some input → length input ≤ longest_input
    → GaveMore longest_input left left' → ⊥
gave_within input left left' told few h = within left' (sym told ∙ h.given)
  where
    more : longest_input < length h.bytes
    more = h.more

    within : (rest : Option (List ℕ)) → Some input ≡ with_front h.bytes rest → ⊥
    within None e = cc
    within (Some rest) e =
        let whole : input ≡ h.bytes ++ rest = cc in
        let m = more in
        omega (arith, ap length whole, length-append h.bytes rest)

-- what isn't read gives no bytes
pub gave_nothing : (left : Option (List ℕ)) → GaveAtMost longest_input left left
gave_nothing None = record { bytes = []; given = refl; within = omega arith }
gave_nothing (Some rest) = record { bytes = []; given = refl; within = omega arith }

-- the path; and a file, a source and a sink before and after
module _ {F S K : Type 0} (file_left : F → Option (List ℕ)) (file_reads : F → ℕ) (path : List ℕ) (f f' : F) (s s' : S) (k k' : K) where
  -- the file was read whole, and makes valid declarations
  pub record IsLoaded : Type 0 where
    pub text : List ℕ
    pub read : IsReadWhole file_left f f' text
    pub declared : Declared
    pub declares : Declares text declared
    pub valid : AreValid declared

  -- what was done with the file, by how the call ended
  abbrev pub Loaded : FileEnding → Type 0
  Loaded (Ran ending) = IsLoaded ⊎ (ending ≡ ends.OutOfMemory)
  Loaded NamesRefused = IsLoaded
  Loaded (Refused message) =
      IsRefusedFile file_left file_reads path f f' s s' k k' message × LeavesAll file_left file_reads path f f' s s' k k'
  Loaded FileFault = Rose (file_reads f) (file_reads f')
  Loaded FileTooLong = GaveMore longest_input (file_left f) (file_left f') × LeavesAll file_left file_reads path f f' s s' k k'

module _ {F S K : Type 0} (file_left : F → Option (List ℕ)) (file_reads : F → ℕ) (path : List ℕ) (f f' : F) (s s' : S) (k k' : K)
    (not_refused : (p text message : List ℕ) (d : Declared) → IsRefusal p text message → Declares text d → AreValid d → ⊥) where
  abbrev IsRead : Type 0
  IsRead = IsLoaded file_left file_reads path f f' s s' k k'

  abbrev IsUnloaded : List ℕ → Type 0
  IsUnloaded message = IsRefusedFile file_left file_reads path f f' s s' k k' message

  abbrev Did : FileEnding → Type 0
  Did ending = Loaded file_left file_reads path f f' s s' k k' ending

  -- a file that was loaded makes valid declarations
  makes_none : (text : List ℕ) → IsRead → file_left f ≡ Some text → ((d : Declared) → Declares text d → AreValid d → ⊥) → ⊥
  makes_none text h told none =
      let texts = same_text file_left f f' text h.text told h.read in
      none h.declared (subst (λ (t : List ℕ). Declares t h.declared) texts h.declares) h.valid

  refuses : (ending : FileEnding) → Did ending → RefusesFile file_left file_reads path f f' s s' k k' ending
  refuses (Ran ending) (inl h) text given none memory = absurd (makes_none text h given.0 none)
  refuses (Ran ending) (inr out) text given none memory = absurd (memory (ap Ran out))
  refuses NamesRefused h text given none memory = absurd (makes_none text h given.0 none)
  refuses (Refused message) h text given none memory =
      let texts = same_text file_left f f' text h.0.text given.0 h.0.read in
      (message, refl, subst (λ (t : List ℕ). IsRefusal path t message) texts h.0.refusal, h.1)
  refuses FileFault h text given none memory = absurd (given.2 h)
  refuses FileTooLong h text given none memory = absurd (gave_within text (file_left f) (file_left f') given.0 given.1 h.0)

  -- only a file that declares nothing, or whose declarations have a fault, is refused
  pub is_refused : (message text : List ℕ) (d : Declared) → IsUnloaded message → file_left f ≡ Some text → Declares text d → AreValid d → ⊥
  is_refused message text d h told declares valid =
      let texts = same_text file_left f f' text h.text told h.read in
      not_refused path text message d (subst (λ (t : List ℕ). IsRefusal path t message) texts h.refusal) declares valid

  -- no more than the limit is read whole
  read_within : (text bytes : List ℕ) → file_left f ≡ Some text → longest_input < length text → IsReadWhole file_left f f' bytes → ⊥
  read_within text bytes told more read =
      let same : length bytes ≡ length text = ap length (same_text file_left f f' text bytes told read) in
      let within = read.within in
      omega (arith, same, within, more)

  -- more than the limit is too long
  too_long : (ending : FileEnding) → Did ending → LeavesLongFile file_left file_reads path f f' s s' k k' ending
  too_long (Ran ending) (inl h) text told more no_fault memory = absurd (read_within text h.text told more h.read)
  too_long (Ran ending) (inr out) text told more no_fault memory = absurd (memory (ap Ran out))
  too_long NamesRefused h text told more no_fault memory = absurd (read_within text h.text told more h.read)
  too_long (Refused message) h text told more no_fault memory = absurd (read_within text h.0.text told more h.0.read)
  too_long FileFault h text told more no_fault memory = absurd (no_fault h)
  too_long FileTooLong h text told more no_fault memory = (refl, h.1)

  -- all of it
  pub of_file : (Asked : Type 0) (ending : FileEnding) → (Asked → Did ending)
      → ((message : List ℕ) → ending ≡ Refused message → IsUnloaded message)
      → (ending ≢ FileTooLong → GaveAtMost longest_input (file_left f) (file_left f'))
      → (ending ≢ FileFault → file_reads f' ≡ file_reads f) → file_reads f ≤ file_reads f'
      → OfFile file_left file_reads path f f' s s' k k' Asked ending
  of_file Asked ending loaded unloaded within no_fault counted = record {
    refuses = λ asked. refuses ending (loaded asked);
    refused_only = λ message text d is told. is_refused message text d (unloaded message is) told;
    too_long = λ asked. too_long ending (loaded asked);
    within = within;
    else_no_fault = no_fault;
    counted = counted;
  }
