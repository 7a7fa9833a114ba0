-- What a check of a file did, by how it ended.
use Rattle.std.proofs.Common.{◌≡◌, ◌≢◌, ◌≤◌, inl, inr, ℕ, List, [], ◌++◌, Option, Some, refl, ap, subst}
use Rattle.std.specs.Prelude.{◌⊎◌, ⊤, false}
use Rattle.meta_types.specs.declared.fault.DefinitionError.{DefinitionError}
use Rattle.meta_text.specs.Outside.{Rose, longest_input, GaveMore, GaveAtMost}
use Rattle.meta_build.specs.AllDeclared.{Declared, HasFirstFault, AreValid}
use Rattle.meta_run.specs.Run.{IsRun, never_rejecting}
use Rattle.meta_run.specs.declared.ending.Ending.{Ending}
use Rattle.meta_run.specs.declared.ending.Ending.TheVariants as ends
use Rattle.meta_run.proofs.Programs as programs
use Rattle.meta_program.specs.Counts.{IsCheckLine}
use Rattle.meta_program.specs.Tool.{says_counts}
use Rattle.meta_program.specs.File.{Declares, IsRefusal}
use Rattle.meta_program.specs.FileRun.{IsRefusedFile}
use Rattle.meta_program.specs.Told.{AreTold}
use Rattle.meta_program.specs.Checked.{IsChecked, DidCheckText, DidCheck}
use Rattle.meta_program.specs.CheckAnswers.{AreNamesRefused, IsCounted, AnswersCheck, AreNamesRefusedOnly, Completes, WritesNothing}
use Rattle.meta_program.specs.CheckAnswers.{TellsNames, RunsCheck}
use Rattle.meta_program.specs.declared.plan.Names.{Names}
use Rattle.meta_program.specs.declared.plan.Names.TheVariants.{Warn, Refuse}
use Rattle.meta_program.specs.declared.file_run.FileEnding.{FileEnding}
use Rattle.meta_program.specs.declared.file_run.FileEnding.TheVariants.{Ran, NamesRefused, Refused, FileFault, FileTooLong}
use Rattle.meta_program.proofs.Loaded.{same_text, gave_within, Loaded, is_refused, of_file}

-- if no names are refused, they are warned of, or there are none
passed : (names : Names) (messages : List (List ℕ)) → (names ≡ Refuse → messages ≡ []) → (names ≡ Warn) ⊎ (messages ≡ [])
passed Warn messages none = inl refl
passed Refuse messages none = inr (none refl)

module _ {F S K : Type 0} (file_left : F → Option (List ℕ)) (file_reads : F → ℕ) (left : S → Option (List ℕ)) (reads : S → ℕ)
    (taken : K → Option (List ℕ)) (writes : K → ℕ) (path : List ℕ) (names : Names) (f f' : F) (s s' : S) (k k' : K)
    (no_fault : (d : Declared) (e : DefinitionError) → AreValid d → HasFirstFault d e → ⊥)
    (one_declared : (text : List ℕ) (d e : Declared) → Declares text d → Declares text e → d ≡ e)
    (not_refused : (p text message : List ℕ) (d : Declared) → IsRefusal p text message → Declares text d → AreValid d → ⊥) where
  abbrev Did : FileEnding → List (List ℕ) → Type 0
  Did ending messages = DidCheck file_left file_reads left reads taken writes path names f f' s s' k k' ending messages

  abbrev DidTo : List ℕ → FileEnding → List (List ℕ) → Type 0
  DidTo text ending messages = DidCheckText left reads taken writes path names text s s' k k' ending messages

  -- the declarations of the file are those that were declared
  same_declared : (text bytes : List ℕ) (d e : Declared) → bytes ≡ text → Declares bytes e → Declares text d → e ≡ d
  same_declared text bytes d e texts h g = one_declared text e d (subst (λ (t : List ℕ). Declares t e) texts h) g

  told_as : (text bytes : List ℕ) (d e : Declared) (messages : List (List ℕ)) → bytes ≡ text → e ≡ d
      → AreTold path names bytes e messages → AreTold path names text d messages
  told_as text bytes d e messages texts same h =
      subst (λ (t : List ℕ). AreTold path names t d messages) texts
      (subst (λ (x : Declared). AreTold path names bytes x messages) same h)

  -- the count as a run of a program that has no words and no input
  run_of : (ending : Ending) (messages : List (List ℕ)) (bytes : List ℕ)
      → (h : IsChecked left reads taken writes path names bytes s s' k k' ending messages)
      → IsRun left reads taken writes h.declared s s' k k' (λ (_ : ⊤). ⊤) (λ _. false) (λ _. never_rejecting says_counts) ending
  run_of ending messages bytes h = inl (tt, tt, h.ran)

  -- what is declared was counted, where memory and the sink allow
  counted : (ending : Ending) (messages : List (List ℕ)) (bytes : List ℕ) (d : Declared)
      → (h : IsChecked left reads taken writes path names bytes s s' k k' ending messages) → h.declared ≡ d → ending ≢ ends.OutOfMemory
      → (before : List ℕ) → taken k ≡ Some before → (Rose (writes k) (writes k') → ⊥)
      → (ending ≡ ends.Done) × (line : List ℕ) × IsCheckLine d line × (taken k' ≡ Some (before ++ line))
  counted ending messages bytes d h same memory before taken_is no_write =
      let run = run_of ending messages bytes h in
      let (done, line, counts, took) = programs.output (λ (_ : ⊤). says_counts) run programs.no_other (no_fault h.declared) tt tt
      h.valid memory [] before refl taken_is no_write in
      (done, line, subst (λ (x : Declared). IsCheckLine x line) same counts, took)

  pub headline : (ending : FileEnding) (messages : List (List ℕ)) → Did ending messages
      → AnswersCheck file_left file_reads left reads taken writes path names f f' s s' k k' ending messages
  headline (Ran ending) messages (inl h) text d given declares valid memory = by h.did
    where
      texts : h.text ≡ text
      texts = same_text file_left f f' text h.text given.0 h.read

      by : DidTo h.text (Ran ending) messages → AreTold path names text d messages
          × (AreNamesRefused file_left file_reads left reads taken writes path names f f' s s' k k' messages (Ran ending)
          ⊎ IsCounted file_left file_reads left reads taken writes path names f f' s s' k k' d messages (Ran ending))
      by (inl checked) =
          let same = same_declared text h.text d checked.declared texts checked.declares declares in (
            told_as text h.text d checked.declared messages texts same checked.told,
            inr (record {
              passed = passed names messages checked.none;
              how = ending;
              is = refl;
              wrote = counted ending messages h.text d checked same (λ e. memory (ap Ran e));
            }),
          )
      by (inr out) = absurd (memory (ap Ran out.0))
  headline (Ran ending) messages (inr out) text d given declares valid memory = absurd (memory (ap Ran out.0))
  headline NamesRefused messages h text d given declares valid memory =
      let (asked, has, source, sink) = h.did in
      let texts = same_text file_left f f' text h.text given.0 h.read in
      let same = same_declared text h.text d has.declared texts has.declares declares in (
        told_as text h.text d has.declared messages texts same has.told,
        inl (record { asked = asked; some = has.some; is = refl; source = source; sink = sink }),
      )
  headline (Refused message) messages h text d given declares valid memory =
      let (refusal, leaves) = h.did in
      absurd (is_refused file_left file_reads path f f' s s' k k' not_refused message text d
      (record { text = h.text; read = h.read; refusal = refusal }) given.0 declares valid)
  headline FileFault messages did text d given declares valid memory = absurd (given.2 did.0)
  headline FileTooLong messages did text d given declares valid memory =
      absurd (gave_within text (file_left f) (file_left f') given.0 given.1 did.0)

  -- what was done with the file
  loaded : (ending : FileEnding) (messages : List (List ℕ)) → Did ending messages
      → Loaded file_left file_reads path f f' s s' k k' ending
  loaded (Ran ending) messages (inl h) = by h.did
    where
      by : DidTo h.text (Ran ending) messages → Loaded file_left file_reads path f f' s s' k k' (Ran ending)
      by (inl checked) = inl (record {
        text = h.text;
        read = h.read;
        declared = checked.declared;
        declares = checked.declares;
        valid = checked.valid;
      })
      by (inr out) = inr out.0
  loaded (Ran ending) messages (inr out) = inr out.0
  loaded NamesRefused messages h =
      let (asked, has, source, sink) = h.did in
      record { text = h.text; read = h.read; declared = has.declared; declares = has.declares; valid = has.valid }
  loaded (Refused message) messages h =
      let (refusal, leaves) = h.did in (record { text = h.text; read = h.read; refusal = refusal }, (leaves.1, leaves.2))
  loaded FileFault messages did = did.0
  loaded FileTooLong messages did = (did.0, (did.2, did.3))

  refused : (ending : FileEnding) (messages : List (List ℕ)) → Did ending messages → (message : List ℕ) → ending ≡ Refused message
      → IsRefusedFile file_left file_reads path f f' s s' k k' message
  refused ending messages did message is = by (subst (λ (e : FileEnding). Did e messages) is did)
    where
      by : Did (Refused message) messages → IsRefusedFile file_left file_reads path f f' s s' k k' message
      by h = let (refusal, leaves) = h.did in record { text = h.text; read = h.read; refusal = refusal }

  -- names are refused only where they are to be, and there are some
  names_refused_only : (ending : FileEnding) (messages : List (List ℕ)) → Did ending messages
      → AreNamesRefusedOnly file_left file_reads left reads taken writes path names f f' s s' k k' ending messages
  names_refused_only ending messages did text is told = by (subst (λ (e : FileEnding). Did e messages) is did)
    where
      by : Did NamesRefused messages → (names ≡ Refuse) × (messages ≢ []) × (d : Declared) × Declares text d × AreValid d
          × AreTold path names text d messages
      by h =
          let (asked, has, source, sink) = h.did in
          let texts = same_text file_left f f' text h.text told h.read in (
            asked,
            has.some,
            has.declared,
            subst (λ (t : List ℕ). Declares t has.declared) texts has.declares,
            has.valid,
            subst (λ (t : List ℕ). AreTold path names t has.declared messages) texts has.told,
          )

  -- nothing but the file is read
  unread : (ending : FileEnding) (messages : List (List ℕ)) → Did ending messages → s' ≡ s
  unread (Ran ending) messages (inl h) = by h.did
    where
      by : DidTo h.text (Ran ending) messages → s' ≡ s
      by (inl checked) = checked.ran.unread refl
      by (inr out) = out.1.1
  unread (Ran ending) messages (inr out) = out.2
  unread NamesRefused messages h = let (asked, has, source, sink) = h.did in source
  unread (Refused message) messages h = let (refusal, leaves) = h.did in leaves.1
  unread FileFault messages did = did.2
  unread FileTooLong messages did = did.2

  untouched : (ending : FileEnding) (messages : List (List ℕ)) → Did ending messages → WritesNothing ending → k' ≡ k
  untouched (Ran ending) messages (inl h) memory = by h.did
    where
      by : DidTo h.text (Ran ending) messages → k' ≡ k
      by (inl checked) = programs.untouched (run_of ending messages h.text checked) (inr (inr (inr memory)))
      by (inr out) = out.1.2
  untouched (Ran ending) messages (inr out) memory = out.3
  untouched NamesRefused messages h all = let (asked, has, source, sink) = h.did in sink
  untouched (Refused message) messages h all = let (refusal, leaves) = h.did in leaves.2
  untouched FileFault messages did all = did.3
  untouched FileTooLong messages did all = did.3

  untold : (ending : FileEnding) (messages : List (List ℕ)) → Did ending messages → (TellsNames ending → ⊥) → messages ≡ []
  untold (Ran ending) messages h never = absurd (never tt)
  untold NamesRefused messages h never = absurd (never tt)
  untold (Refused message) messages h never = let (refusal, leaves) = h.did in leaves.0
  untold FileFault messages did never = did.1
  untold FileTooLong messages did never = did.1

  -- a run over valid declarations that has no input ends so, where no write fails
  done : (ending : Ending) (messages : List (List ℕ)) (bytes : List ℕ)
      → IsChecked left reads taken writes path names bytes s s' k k' ending messages → (Rose (writes k) (writes k') → ⊥)
      → (ending ≡ ends.Done) ⊎ (ending ≡ ends.OutOfMemory)
  done ends.Done messages bytes h no_write = inl refl
  done ends.Rejected messages bytes h no_write = let did = h.ran.did in absurd did.answers
  done ends.Refused messages bytes h no_write = let did = h.ran.did in absurd (no_fault h.declared did.1.fault h.valid did.1.first)
  done ends.Usage messages bytes h no_write = absurd h.ran.did
  done ends.ReadFault messages bytes h no_write = let did = h.ran.did in let no = did.0 in absurd (cc)
  done ends.WriteFault messages bytes h no_write = let did = h.ran.did in absurd (no_write did.0)
  done ends.OutOfMemory messages bytes h no_write = inr refl
  done ends.TooLong messages bytes h no_write = let did = h.ran.did in let no = did.0 in absurd (cc)

  complete : (ending : FileEnding) (messages : List (List ℕ)) → Did ending messages
      → Completes file_left file_reads left reads taken writes path names f f' s s' k k' ending
  complete (Ran ending) messages (inl h) no_read no_write = by h.did
    where
      by : DidTo h.text (Ran ending) messages
          → (ending ≡ ends.Done) ⊎ ((Ran ending ≡ Ran ends.OutOfMemory)
          ⊎ ((Ran ending ≡ FileTooLong) × GaveMore longest_input (file_left f) (file_left f')))
      by (inr out) = inr (inl (ap Ran out.0))
      by (inl checked) = either (done ending messages h.text checked no_write)
        where
          either : (ending ≡ ends.Done) ⊎ (ending ≡ ends.OutOfMemory)
              → (ending ≡ ends.Done) ⊎ ((Ran ending ≡ Ran ends.OutOfMemory)
              ⊎ ((Ran ending ≡ FileTooLong) × GaveMore longest_input (file_left f) (file_left f')))
          either (inl e) = inl e
          either (inr e) = inr (inl (ap Ran e))
  complete (Ran ending) messages (inr out) no_read no_write = inr (inl (ap Ran out.0))
  complete NamesRefused messages h no_read no_write = inl tt
  complete (Refused message) messages h no_read no_write = inl tt
  complete FileFault messages did no_read no_write = absurd (no_read did.0)
  complete FileTooLong messages did no_read no_write = inr (inr (refl, did.0))

  -- all of it
  pub runs : (ending : FileEnding) (messages : List (List ℕ)) → Did ending messages
      → (ending ≢ FileTooLong → GaveAtMost longest_input (file_left f) (file_left f'))
      → (ending ≢ FileFault → file_reads f' ≡ file_reads f) → file_reads f ≤ file_reads f'
      → RunsCheck file_left file_reads left reads taken writes path names f f' s s' k k' ending messages
  runs ending messages did within no_file_fault file_counted = record {
    did = did;
    answers = headline ending messages did;
    names_refused_only = names_refused_only ending messages did;
    file = of_file file_left file_reads path f f' s s' k k' not_refused ⊤ ending (λ asked. loaded ending messages did)
        (refused ending messages did) within no_file_fault file_counted;
    complete = complete ending messages did;
    unread = unread ending messages did;
    untouched = untouched ending messages did;
    untold = untold ending messages did;
  }
