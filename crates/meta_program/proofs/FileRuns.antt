-- What a run over a file did, by how it ended.
use Rattle.std.proofs.Common.{◌≡◌, ◌≢◌, ◌≤◌, inl, inr, ℕ, List, Option, Some, refl, sym, ap, subst}
use Rattle.meta_types.specs.declared.fault.DefinitionError.{DefinitionError}
use Rattle.meta_text.specs.Outside.{longest_input, GaveAtMost}
use Rattle.meta_build.specs.AllDeclared.{Declared, HasFirstFault, AreValid}
use Rattle.meta_run.specs.Run.{IsReadWhole, AnswersInput, IsRun, Ran as RanOver}
use Rattle.meta_run.specs.declared.ending.Ending.{Ending}
use Rattle.meta_run.specs.declared.ending.Ending.TheVariants as ends
use Rattle.meta_run.proofs.Programs as programs
use Rattle.meta_program.specs.Tool.{reads_input, texts_of}
use Rattle.meta_program.specs.File.{Declares, IsRefusal}
use Rattle.meta_program.specs.FileRun.{IsAsked, RanText, DidText, DidFile, RanFile, IsRefusedFile, AnswersFile, RunsDeclared, RunsFile}
use Rattle.meta_program.specs.declared.tool.Tool.{Tool}
use Rattle.meta_program.specs.declared.file_run.FileEnding.{FileEnding}
use Rattle.meta_program.specs.declared.file_run.FileEnding.TheVariants.{Ran, NamesRefused, Refused, FileFault, FileTooLong}
use Rattle.meta_program.proofs.Loaded.{same_text, gave_within, Loaded, is_refused, of_file}

module _ {F S K : Type 0} (file_left : F → Option (List ℕ)) (file_reads : F → ℕ) (left : S → Option (List ℕ)) (reads : S → ℕ) (taken : K
    → Option (List ℕ)) (writes : K → ℕ) (Means : Tool → Type 0) (path : List ℕ) (f f' : F) (s s' : S) (k k' : K)
    (no_fault : (d : Declared) (e : DefinitionError) → AreValid d → HasFirstFault d e → ⊥)
    (one_fault : (d : Declared) (e g : DefinitionError) → HasFirstFault d e → HasFirstFault d g → e ≡ g)
    (one_tool : (t u : Tool) → Means t → Means u → t ≡ u)
    (one_declared : (text : List ℕ) (d e : Declared) → Declares text d → Declares text e → d ≡ e)
    (not_refused : (p text message : List ℕ) (d : Declared) → IsRefusal p text message → Declares text d → AreValid d → ⊥) where
  abbrev Did : FileEnding → Type 0
  Did ending = DidFile file_left file_reads left reads taken writes Means path f f' s s' k k' ending

  -- what the words ask was answered over the declarations
  answered : (ending : Ending) → RanFile file_left file_reads left reads taken writes Means path f f' s s' k k' ending
      → (text : List ℕ) (d : Declared) (tool : Tool) → file_left f ≡ Some text → Declares text d → Means tool
      → AnswersInput left reads taken writes d s s' k k' (reads_input tool) (texts_of tool) ending
  answered ending ran text d tool told declares asks =
      let texts = same_text file_left f f' text ran.text told ran.read in
      let r = ran.ran in
      let same = one_declared text r.declared d (subst (λ (t : List ℕ). Declares t r.declared) texts r.declares) declares in
      let run : IsRun left reads taken writes r.declared s s' k k' Means reads_input texts_of ending = inl (r.tool, r.asked, r.ran) in
      subst (λ (e : Declared). AnswersInput left reads taken writes e s s' k k' (reads_input tool) (texts_of tool) ending) same
      (programs.answers run one_tool (no_fault r.declared) tool asks)

  pub headline : (ending : FileEnding) → Did ending
      → AnswersFile file_left file_reads left reads taken writes Means path f f' s s' k k' ending
  headline (Ran ending) (inl ran) text d tool given declares valid asks memory input before g taken_is no_write =
      let (is_rejection, out, are, is, took) =
      answered ending ran text d tool given.0 declares asks valid (λ e. memory (ap Ran e)) input before g taken_is no_write in
      (is_rejection, out, are, ap Ran is, took)
  headline (Ran ending) (inr (inl nothing)) text d tool given declares valid asks memory input before g taken_is no_write =
      absurd (nothing.0 (tool, asks))
  headline (Ran ending) (inr (inr out)) text d tool given declares valid asks memory input before g taken_is no_write =
      absurd (memory (ap Ran out.1))
  headline NamesRefused did text d tool given declares valid asks memory input before g taken_is no_write = absurd did
  headline (Refused message) did text d tool given declares valid asks memory input before g taken_is no_write =
      absurd (is_refused file_left file_reads path f f' s s' k k' not_refused message text d did.1 given.0 declares valid)
  headline FileFault did text d tool given declares valid asks memory input before g taken_is no_write = absurd (given.2 did.1)
  headline FileTooLong did text d tool given declares valid asks memory input before g taken_is no_write =
      absurd (gave_within text (file_left f) (file_left f') given.0 given.1 did.1)

  -- what was done with the file, if a tool is asked
  loaded : (ending : FileEnding) → Did ending → IsAsked Means → Loaded file_left file_reads path f f' s s' k k' ending
  loaded (Ran ending) (inl ran) asks = inl (record {
    text = ran.text;
    read = ran.read;
    declared = ran.ran.declared;
    declares = ran.ran.declares;
    valid = ran.ran.valid;
  })
  loaded (Ran ending) (inr (inl nothing)) asks = absurd (nothing.0 asks)
  loaded (Ran ending) (inr (inr out)) asks = inr out.1
  loaded NamesRefused did asks = absurd did
  loaded (Refused message) did asks = (did.1, did.2)
  loaded FileFault did asks = did.1
  loaded FileTooLong did asks = (did.1, did.2)

  refused : (ending : FileEnding) → Did ending → (message : List ℕ) → ending ≡ Refused message
      → IsRefusedFile file_left file_reads path f f' s s' k k' message
  refused ending did message is = by (subst (λ (e : FileEnding). Did e) is did)
    where
      by : Did (Refused message) → IsRefusedFile file_left file_reads path f f' s s' k k' message
      by own = own.1

  no_names : (ending : FileEnding) → Did ending → ending ≢ NamesRefused
  no_names ending did is = by (subst (λ (e : FileEnding). Did e) is did)
    where
      by : Did NamesRefused → ⊥
      by own = own

  -- unless the ending is a fault of the source, no read of it failed
  pub else_no_fault : (ending : FileEnding) → Did ending → ending ≢ Ran ends.ReadFault → reads s' ≡ reads s
  else_no_fault (Ran ending) (inl ran) other = ran.ran.ran.else_no_fault (λ e. other (ap Ran e))
  else_no_fault (Ran ending) (inr (inl nothing)) other = ap reads nothing.3.0
  else_no_fault (Ran ending) (inr (inr out)) other = ap reads out.2.0
  else_no_fault NamesRefused did other = absurd did
  else_no_fault (Refused message) did other = ap reads did.2.0
  else_no_fault FileFault did other = ap reads did.2.0
  else_no_fault FileTooLong did other = ap reads did.2.0

  -- words that ask nothing are a usage error, and no others are
  pub asks_nothing : (ending : FileEnding) → Did ending → (IsAsked Means → ⊥) → ending ≡ Ran ends.Usage
  asks_nothing (Ran ending) (inl ran) none = absurd (none (ran.ran.tool, ran.ran.asked))
  asks_nothing (Ran ending) (inr (inl nothing)) none = ap Ran nothing.1
  asks_nothing (Ran ending) (inr (inr out)) none = absurd (none out.0)
  asks_nothing NamesRefused did none = absurd did
  asks_nothing (Refused message) did none = absurd (none did.0)
  asks_nothing FileFault did none = absurd (none did.0)
  asks_nothing FileTooLong did none = absurd (none did.0)

  pub usage : (ending : FileEnding) → ending ≡ Ran ends.Usage → Did ending → IsAsked Means → ⊥
  usage ending is did asks = by (subst (λ (e : FileEnding). Did e) is did)
    where
      by : Did (Ran ends.Usage) → ⊥
      by (inl ran) = ran.ran.ran.did
      by (inr (inl nothing)) = nothing.0 asks
      by (inr (inr out)) = let no : ends.Usage ≡ ends.OutOfMemory = out.1 in cc

  -- the run over what the file declares
  declared_by : (ending : Ending) → RanFile file_left file_reads left reads taken writes Means path f f' s s' k k' ending
      → RunsDeclared file_left file_reads left reads taken writes Means path f f' s s' k k' ending
  declared_by ending ran =
      let r = ran.ran in
      let run : IsRun left reads taken writes r.declared s s' k k' Means reads_input texts_of ending = inl (r.tool, r.asked, r.ran) in
      record {
        text = ran.text;
        read = ran.read;
        declared = r.declared;
        declares = r.declares;
        valid = r.valid;
        runs = programs.runs run one_tool (no_fault r.declared) (one_fault r.declared);
      }

  over_declared : (ending : FileEnding) → Did ending → (how : Ending) → ending ≡ Ran how → how ≢ ends.Usage → how ≢ ends.OutOfMemory
      → RunsDeclared file_left file_reads left reads taken writes Means path f f' s s' k k' how
  over_declared ending did how is no_usage memory = by (subst (λ (e : FileEnding). Did e) is did)
    where
      by : Did (Ran how) → RunsDeclared file_left file_reads left reads taken writes Means path f f' s s' k k' how
      by (inl ran) = declared_by how ran
      by (inr (inl nothing)) = absurd (no_usage nothing.1)
      by (inr (inr out)) = absurd (memory out.1)

  -- all of it
  pub runs : (ending : FileEnding) → Did ending → (ending ≢ FileTooLong → GaveAtMost longest_input (file_left f) (file_left f'))
      → (ending ≢ FileFault → file_reads f' ≡ file_reads f) → file_reads f ≤ file_reads f'
      → RunsFile file_left file_reads left reads taken writes Means path f f' s s' k k' ending
  runs ending did within no_file_fault counted = record {
    did = did;
    runs = over_declared ending did;
    answers = headline ending did;
    file = of_file file_left file_reads path f f' s s' k k' not_refused (IsAsked Means) ending (loaded ending did) (refused ending did)
        within no_file_fault counted;
    else_no_fault = else_no_fault ending did;
    usage = λ is. usage ending is did;
    no_words = asks_nothing ending did;
    no_names = no_names ending did;
  }

module _ {F S K : Type 0} (file_left : F → Option (List ℕ)) (file_reads : F → ℕ) (left : S → Option (List ℕ)) (reads : S → ℕ) (taken : K
    → Option (List ℕ)) (writes : K → ℕ) (Means : Tool → Type 0) (path text : List ℕ) (f f' : F) (s s' : S) (k k' : K) where
  -- what was done with the text of a file that was read whole
  pub did_file : IsAsked Means → IsReadWhole file_left f f' text → (ending : FileEnding)
      → DidText left reads taken writes Means path text s s' k k' ending
      → DidFile file_left file_reads left reads taken writes Means path f f' s s' k k' ending
  did_file asks read (Ran ending) (inl ran) = inl (record { text = text; read = read; ran = ran })
  did_file asks read (Ran ending) (inr out) = inr (inr (asks, out.0, (out.1, out.2)))
  did_file asks read NamesRefused did = absurd did
  did_file asks read (Refused message) did = (asks, record { text = text; read = read; refusal = did.0 }, (did.1, did.2))
  did_file asks read FileFault did = absurd did
  did_file asks read FileTooLong did = absurd did

  -- the same, where the text is what was read
  pub did_read : IsAsked Means → (bytes : List ℕ) → text ≡ bytes → IsReadWhole file_left f f' bytes → (ending : FileEnding)
      → DidText left reads taken writes Means path text s s' k k' ending
      → DidFile file_left file_reads left reads taken writes Means path f f' s s' k k' ending
  did_read asks bytes same read = did_file asks (subst (λ (t : List ℕ). IsReadWhole file_left f f' t) (sym same) read)

-- a tool that is asked ran over what the text declares
module _ {S K : Type 0} {left : S → Option (List ℕ)} {reads : S → ℕ} {taken : K → Option (List ℕ)} {writes : K → ℕ}
    {Means : Tool → Type 0} {path text : List ℕ} {s s' : S} {k k' : K} where
  pub ran_text : (tool : Tool) → Means tool → (d : Declared) → Declares text d → AreValid d → (ending : Ending)
      → RanOver left reads taken writes d s s' k k' (reads_input tool) (texts_of tool) ending
      → RanText left reads taken writes Means path text s s' k k' ending
  ran_text tool asked d declares valid ending ran =
      record { declared = d; declares = declares; valid = valid; tool = tool; asked = asked; ran = ran }

-- what was done for a tool was done for the words that ask for it
module _ {F S K : Type 0} (file_left : F → Option (List ℕ)) (file_reads : F → ℕ) (left : S → Option (List ℕ)) (reads : S → ℕ)
    (taken : K → Option (List ℕ)) (writes : K → ℕ) (Means : Tool → Type 0) (path : List ℕ) (f f' : F) (s s' : S) (k k' : K)
    (tool : Tool) (asked : Means tool) where
  pub did_for : (ending : FileEnding)
      → DidFile file_left file_reads left reads taken writes (λ (t : Tool). t ≡ tool) path f f' s s' k k' ending
      → DidFile file_left file_reads left reads taken writes Means path f f' s s' k k' ending
  did_for (Ran ending) (inl h) = inl (record {
    text = h.text;
    read = h.read;
    ran = ran_text h.ran.tool (subst Means (sym h.ran.asked) asked) h.ran.declared h.ran.declares h.ran.valid ending h.ran.ran;
  })
  did_for (Ran ending) (inr (inl nothing)) = absurd (nothing.0 (tool, refl))
  did_for (Ran ending) (inr (inr out)) = inr (inr ((tool, asked), out.1, out.2))
  did_for NamesRefused did = absurd did
  did_for (Refused message) did =
      ((tool, asked), record { text = did.1.text; read = did.1.read; refusal = did.1.refusal }, did.2)
  did_for FileFault did = ((tool, asked), did.1, did.2)
  did_for FileTooLong did = ((tool, asked), did.1, did.2)
