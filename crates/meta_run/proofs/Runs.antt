-- What a run did, by how it ended.
use Rattle.std.proofs.Common.{◌≡◌, ◌≢◌, ◌<◌, ◌≤◌, inl, inr, ℕ, Bool, true, false, List, [], ◌++◌, length, length-append, Option, None, Some}
use Rattle.std.proofs.Common.{refl, sym, ap, ◌∙◌, subst, arith}
use Rattle.std.proofs.lemmas.List.{append-nil}
use Rattle.meta_types.specs.declared.fault.DefinitionError.{DefinitionError}
use Rattle.meta_types.specs.declared.fault.DefinitionError.TheVariants as fault_of
use Rattle.meta_text.specs.Outside.{Rose, with_front, with_more, NothingLeft, longest_input, GaveMore, GaveAtMost}
use Rattle.meta_build.specs.AllDeclared.{Declared, HasFirstFault, AreValid}
use Rattle.meta_run.specs.declared.ending.Ending.{Ending}
use Rattle.meta_run.specs.declared.ending.Ending.TheVariants.{Done, Refused, Usage, ReadFault, WriteFault, OutOfMemory, TooLong, Rejected}
use Rattle.meta_run.specs.Run.{refusal, Texts, IsInput, IsAnsweredWhole, Refuses, Did, Ran, IsGiven, AnswersInput, RefusesDeclarations}
use Rattle.meta_run.specs.Run.{Completes}

-- what was read is all that was left, if contracts see the bytes and nothing is left now
read_all : (input bytes : List ℕ) (left' : Option (List ℕ)) → Some input ≡ with_front bytes left' → NothingLeft left' → bytes ≡ input
read_all input bytes None e end = absurd (cc)
read_all input bytes (Some rest) e end =
    let whole : input ≡ bytes ++ rest = cc in
    sym (whole ∙ ap (λ r. bytes ++ r) end ∙ append-nil bytes)

-- a source doesn't give more than it had
gave_within : (input : List ℕ) (left' : Option (List ℕ)) → length input ≤ longest_input → GaveMore longest_input (Some input) left' → ⊥
gave_within input left' few h = within left' h.given
  where
    more : longest_input < length h.bytes
    more = h.more

    within : (left : Option (List ℕ)) → Some input ≡ with_front h.bytes left → ⊥
    within None e = cc
    within (Some rest) e =
        let whole : input ≡ h.bytes ++ rest = cc in
        let m = more in
        omega (arith, ap length whole, length-append h.bytes rest)

-- if nothing was read, no more was given than may be
pub gave_nothing : (left : Option (List ℕ)) → GaveAtMost longest_input left left
gave_nothing None = record { bytes = []; given = refl; within = omega arith }
gave_nothing (Some rest) = record { bytes = []; given = refl; within = omega arith }

module _ {S K : Type 0} (left : S → Option (List ℕ)) (reads : S → ℕ) (taken : K → Option (List ℕ))
    (writes : K → ℕ) (d : Declared) (s s' : S) (k k' : K) (texts : Texts) where
  -- what was answered is what was given
  given : (has_input : Bool) (input bytes : List ℕ) → IsGiven left reads taken writes d s s' k k' has_input input
      → IsInput left has_input s s' bytes → bytes ≡ input
  given true input bytes g h = read_all input bytes (left s') (sym g.0 ∙ h.read) h.end
  given false input bytes g h = h.0 ∙ sym g

  -- a text that was written whole answers what was given
  answered : (has_input is_rejection : Bool) → IsAnsweredWhole left reads taken writes d s s' k k' has_input texts is_rejection
      → (input before : List ℕ) → IsGiven left reads taken writes d s s' k k' has_input input → taken k ≡ Some before
      → (text : List ℕ) × texts d input is_rejection text × (taken k' ≡ Some (before ++ text))
  answered has_input is_rejection h input before g taken_is =
      let all = given has_input input h.input g h.read in
      (h.text, subst (λ i. texts d i is_rejection h.text) all h.answers, h.took ∙ ap (λ t. with_more t h.text) taken_is)

  -- for an input that is given no read fails
  no_read_fault : (has_input : Bool) (input : List ℕ) → IsGiven left reads taken writes d s s' k k' has_input input → has_input ≡ true
      → Rose (reads s) (reads s') → ⊥
  no_read_fault true input g e rose = g.2 rose
  no_read_fault false input g e rose = absurd (cc)

  -- an input that is given isn't too long
  not_too_long : (has_input : Bool) (input : List ℕ) → IsGiven left reads taken writes d s s' k k' has_input input → has_input ≡ true
      → GaveMore longest_input (left s) (left s') → ⊥
  not_too_long true input g e more = gave_within input (left s') g.1 (subst (λ l. GaveMore longest_input l (left s')) g.0 more)
  not_too_long false input g e more = absurd (cc)

  pub headline : (has_input : Bool) → ((e : DefinitionError) → AreValid d → HasFirstFault d e → ⊥) → (ending : Ending)
      → Did left reads taken writes d s s' k k' has_input texts ending
      → AnswersInput left reads taken writes d s s' k k' has_input texts ending
  headline has_input no_fault Done did valid memory input before g taken_is no_write =
      let h = answered has_input false did input before g taken_is in (false, h.0, h.1, refl, h.2)
  headline has_input no_fault Rejected did valid memory input before g taken_is no_write =
      let h = answered has_input true did input before g taken_is in (true, h.0, h.1, refl, h.2)
  headline has_input no_fault Refused did valid memory input before g taken_is no_write = absurd (no_fault did.1.fault valid did.1.first)
  headline has_input no_fault Usage did valid memory input before g taken_is no_write = absurd did
  headline has_input no_fault ReadFault did valid memory input before g taken_is no_write =
      absurd (no_read_fault has_input input g did.0 did.2)
  headline has_input no_fault WriteFault did valid memory input before g taken_is no_write = absurd (no_write did.0)
  headline has_input no_fault OutOfMemory did valid memory input before g taken_is no_write = absurd (memory refl)
  headline has_input no_fault TooLong did valid memory input before g taken_is no_write =
      absurd (not_too_long has_input input g did.0 did.2)

  pub refuses : (has_input : Bool) → ((e f : DefinitionError) → HasFirstFault d e → HasFirstFault d f → e ≡ f)
      → ((e : DefinitionError) → AreValid d → HasFirstFault d e → ⊥) → (ending : Ending)
      → Did left reads taken writes d s s' k k' has_input texts ending → RefusesDeclarations left reads taken writes d s s' k k' ending
  refuses has_input one_fault no_fault Done did e first memory before taken_is no_write = absurd (no_fault e did.valid first)
  refuses has_input one_fault no_fault Rejected did e first memory before taken_is no_write = absurd (no_fault e did.valid first)
  refuses has_input one_fault no_fault Refused did e first memory before taken_is no_write =
      let h = did.1 in (
        refl,
        h.took ∙ ap (λ t. with_more t (refusal h.fault)) taken_is
            ∙ ap (λ f. Some (before ++ refusal f)) (one_fault h.fault e h.first first),
      )
  refuses has_input one_fault no_fault Usage did e first memory before taken_is no_write = absurd did
  refuses has_input one_fault no_fault ReadFault did e first memory before taken_is no_write = absurd (no_fault e did.1 first)
  refuses has_input one_fault no_fault WriteFault did e first memory before taken_is no_write = absurd (no_write did.0)
  refuses has_input one_fault no_fault OutOfMemory did e first memory before taken_is no_write = absurd (memory refl)
  refuses has_input one_fault no_fault TooLong did e first memory before taken_is no_write = absurd (no_fault e did.1 first)

  pub complete : (has_input : Bool) → ((e : DefinitionError) → AreValid d → HasFirstFault d e → ⊥) → (ending : Ending)
      → Did left reads taken writes d s s' k k' has_input texts ending → Completes left reads taken writes d s s' k k' has_input ending
  complete has_input no_fault Done did valid no_read no_write = inl (false, refl)
  complete has_input no_fault Rejected did valid no_read no_write = inl (true, refl)
  complete has_input no_fault Refused did valid no_read no_write = absurd (no_fault did.1.fault valid did.1.first)
  complete has_input no_fault Usage did valid no_read no_write = absurd did
  complete has_input no_fault ReadFault did valid no_read no_write = absurd (no_read did.2)
  complete has_input no_fault WriteFault did valid no_read no_write = absurd (no_write did.0)
  complete has_input no_fault OutOfMemory did valid no_read no_write = inr (inl refl)
  complete has_input no_fault TooLong did valid no_read no_write = inr (inr (refl, did.0, did.2))

  -- what a run did, by how it ended
  pub at_ending : (has_input : Bool) (ending other : Ending) → ending ≡ other
      → Did left reads taken writes d s s' k k' has_input texts ending → Did left reads taken writes d s s' k k' has_input texts other
  at_ending has_input ending other same did = subst (λ e. Did left reads taken writes d s s' k k' has_input texts e) same did

-- the refusal of declarations is a run that read nothing
module _ {S K : Type 0} (left : S → Option (List ℕ)) (reads : S → ℕ) (taken : K → Option (List ℕ))
    (writes : K → ℕ) (d : Declared) (s : S) (k k' : K) (has_input : Bool) (texts : Texts) (fault : DefinitionError) (first : fault
    ≢ fault_of.OutOfMemory → HasFirstFault d fault) where
  pub refused : (ending : Ending) → Refuses taken writes fault k k' ending → Did left reads taken writes d s s k k' has_input texts ending
  refused Done h = absurd h
  refused Rejected h = absurd h
  refused Refused h = (refl, record { fault = fault; first = first h.0; took = h.1 })
  refused Usage h = absurd h
  refused ReadFault h = absurd h
  refused WriteFault h = (h.1, inl (refl, record { fault = fault; first = first h.0; took = h.2 }))
  refused OutOfMemory h = h
  refused TooLong h = absurd h

  pub ran_refused : (ending : Ending) → Refuses taken writes fault k k' ending → writes k ≤ writes k'
      → Ran left reads taken writes d s s k k' has_input texts ending
  ran_refused ending h counted = record {
    did = refused ending h;
    else_within = λ other. gave_nothing (left s);
    else_no_fault = λ other. refl;
    unread = λ none. refl;
    read_counted = omega arith;
    write_counted = counted;
  }
