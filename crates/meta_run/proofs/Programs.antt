-- What is known of a run of a program, with words or without, by how it ended.
use Rattle.std.proofs.Common.{◌≡◌, ◌≢◌, ◌≤◌, inl, inr, ℕ, Bool, true, false, List, ◌++◌, Option, Some, refl, sym, ap, ◌∙◌, subst, le_refl}
use Rattle.std.specs.Prelude.{⊤}
use Rattle.meta_types.specs.declared.fault.DefinitionError.{DefinitionError}
use Rattle.meta_text.specs.Outside.{Rose, longest_input, GaveMore, GaveAtMost}
use Rattle.meta_build.specs.AllDeclared.{Declared, HasFirstFault, AreValid}
use Rattle.meta_run.specs.Ending.{WritesNothing, written_as}
use Rattle.meta_run.specs.declared.ending.Ending.{Ending}
use Rattle.meta_run.specs.declared.ending.Ending.TheVariants.{Done, Refused, Usage, ReadFault, WriteFault, OutOfMemory, TooLong, Rejected}
use Rattle.meta_run.specs.Run.{Texts, Outputs, never_rejecting, NeverRises, IsAnsweredWhole, IsRefusedWhole, IsCutShort, Did, Ran, IsRun}
use Rattle.meta_run.specs.Run.{AnswersInput, WritesOutput, RefusesDeclarations, Completes, Runs}
use Rattle.meta_run.proofs.Runs as lemma

-- without words there is one meaning of type ⊤
pub no_other : {A : Type 0} (v w : ⊤) → A → A → v ≡ w
no_other v w a b = refl

module _ {S K W : Type 0} {left : S → Option (List ℕ)} {reads : S → ℕ} {taken : K → Option (List ℕ)} {writes : K
    → ℕ} {d : Declared} {s s' : S} {k k' : K} {Means : W → Type 0} {has_input : W → Bool} {texts : W
    → Texts} {ending : Ending} (run : IsRun left reads taken writes d s s' k k' Means has_input texts ending) where
  abbrev DidBy : W → Ending → Type 0
  DidBy w other = Did left reads taken writes d s s' k k' (has_input w) (texts w) other

  -- what holds if the words mean something, and also if they mean nothing, holds
  known : {X : Type 0} → ((w : W) → Means w → Ran left reads taken writes d s s' k k' (has_input w) (texts w) ending → X)
      → (((w : W) → Means w → ⊥) → ending ≡ Usage → s' ≡ s → k' ≡ k → X) → X
  known {X} meant nothing = by run
    where
      by : IsRun left reads taken writes d s s' k k' Means has_input texts ending → X
      by (inl (w, means, ran)) = meant w means ran
      by (inr (none, is, source, sink)) = nothing none is source sink

  -- ---- how it ended

  ended : (other : Ending) → ending ≡ other → other ≢ Usage → (w : W) × Means w × DidBy w other
  ended other e differs = known (λ w means ran. (w, means, subst (DidBy w) e ran.did))
      (λ none is source sink. absurd (differs (sym e ∙ is)))

  -- the words decide whether it is a usage error
  pub usage : ending ≡ Usage → (w : W) → Means w → ⊥
  usage e = known (λ w means ran. absurd (subst (DidBy w) e ran.did)) (λ none is source sink. none)

  pub no_words : ((w : W) → Means w → ⊥) → ending ≡ Usage
  no_words none = known (λ w means ran. absurd (none w means)) (λ nothing is source sink. is)

  pub done : ending ≡ Done → (w : W) × Means w × IsAnsweredWhole left reads taken writes d s s' k k' (has_input w) (texts w) false
  done e = ended Done e (λ g. cc)

  pub rejected : ending ≡ Rejected → (w : W) × Means w × IsAnsweredWhole left reads taken writes d s s' k k' (has_input w) (texts w) true
  rejected e = ended Rejected e (λ g. cc)

  pub refused : ending ≡ Refused → (w : W) × Means w × IsRefusedWhole d (taken k) (taken k')
  refused e = let (w, means, h) = ended Refused e (λ g. cc) in (w, means, h.1)

  pub read_fault : ending ≡ ReadFault → (w : W) × Means w × (has_input w ≡ true) × AreValid d × Rose (reads s) (reads s')
  read_fault e = let (w, means, h) = ended ReadFault e (λ g. cc) in (w, means, h.0, h.1, h.2)

  pub write_fault : ending ≡ WriteFault → (w : W) × Means w × Rose (writes k) (writes k')
  write_fault e = let (w, means, h) = ended WriteFault e (λ g. cc) in (w, means, h.0)

  pub written_in_part : ending ≡ WriteFault → (w : W) × Means w × IsCutShort left reads taken writes d s s' k k' (has_input w) (texts w)
  written_in_part e = let (w, means, h) = ended WriteFault e (λ g. cc) in (w, means, h.1)

  pub too_long : ending ≡ TooLong → (w : W) × Means w × (has_input w ≡ true) × AreValid d × GaveMore longest_input (left s) (left s')
  too_long e = let (w, means, h) = ended TooLong e (λ g. cc) in (w, means, h.0, h.1, h.2)

  -- a program that has no text for a rejection rejects nothing
  pub never_rejects : ((w : W) (input text : List ℕ) → texts w d input true text → ⊥) → ending ≢ Rejected
  never_rejects none e = let (w, means, h) = rejected e in none w h.input h.text h.answers

  -- ---- what stays as it was

  pub else_within : ending ≢ TooLong → GaveAtMost longest_input (left s) (left s')
  else_within other = known (λ w means ran. ran.else_within other)
      (λ none is source sink. subst (λ t. GaveAtMost longest_input (left s) (left t)) (sym source) (lemma.gave_nothing (left s)))

  pub else_no_fault : ending ≢ ReadFault → reads s' ≡ reads s
  else_no_fault other = known (λ w means ran. ran.else_no_fault other) (λ none is source sink. ap reads source)

  pub untouched : WritesNothing ending → k' ≡ k
  untouched (inl e) = known (λ w means ran. absurd (subst (DidBy w) e ran.did)) (λ none is source sink. sink)
  untouched (inr (inl e)) = let (w, means, h) = ended ReadFault e (λ g. cc) in h.3
  untouched (inr (inr (inl e))) = let (w, means, h) = ended TooLong e (λ g. cc) in h.3
  untouched (inr (inr (inr e))) = let (w, means, h) = ended OutOfMemory e (λ g. cc) in h

  pub usage_unread : ending ≡ Usage → s' ≡ s
  usage_unread e = known (λ w means ran. absurd (subst (DidBy w) e ran.did)) (λ none is source sink. source)

  pub refused_unread : ending ≡ Refused → s' ≡ s
  refused_unread e = let (w, means, h) = ended Refused e (λ g. cc) in h.0

  -- nothing is read for words that have no input
  pub unread : ((w : W) → Means w → has_input w ≡ false) → s' ≡ s
  unread none = known (λ w means ran. ran.unread (none w means)) (λ nothing is source sink. source)

  pub read_counted : reads s ≤ reads s'
  read_counted = known (λ w means ran. ran.read_counted) (λ none is source sink. subst (λ t. reads s ≤ reads t) (sym source) (le_refl _))

  pub write_counted : writes k ≤ writes k'
  write_counted = known (λ w means ran. ran.write_counted) (λ none is source sink. subst (λ t. writes k ≤ writes t) (sym sink) (le_refl _))

  pub unfailing_source : NeverRises reads → ending ≢ ReadFault
  unfailing_source never e = let (w, means, has, valid, rose) = read_fault e in never s s' rose

  pub unfailing_sink : NeverRises writes → ending ≢ WriteFault
  unfailing_sink never e = let (w, means, rose) = write_fault e in never k k' rose

  -- ---- where nothing fails: the words mean at most one thing, and valid declarations have no fault

  module _ (one : (v w : W) → Means v → Means w → v ≡ w) (no_fault : (e : DefinitionError) → AreValid d → HasFirstFault d e
      → ⊥) (w : W) (means : Means w) where
    own : DidBy w ending
    own = known (λ v other ran. subst (λ x. DidBy x ending) (one v w other means) ran.did) (λ none is source sink. absurd (none w means))

    pub answers : AnswersInput left reads taken writes d s s' k k' (has_input w) (texts w) ending
    answers = lemma.headline left reads taken writes d s s' k k' (texts w) (has_input w) no_fault ending own

    pub refuses : ((e f : DefinitionError) → HasFirstFault d e → HasFirstFault d f → e ≡ f)
        → RefusesDeclarations left reads taken writes d s s' k k' ending
    refuses one_fault = lemma.refuses left reads taken writes d s s' k k' (texts w) (has_input w) one_fault no_fault ending own

    pub complete : Completes left reads taken writes d s s' k k' (has_input w) ending
    complete = lemma.complete left reads taken writes d s s' k k' (texts w) (has_input w) no_fault ending own

  -- ---- all of it

  pub runs : ((v w : W) → Means v → Means w → v ≡ w) → ((e : DefinitionError) → AreValid d → HasFirstFault d e → ⊥)
      → ((e f : DefinitionError) → HasFirstFault d e → HasFirstFault d f → e ≡ f)
      → Runs left reads taken writes d s s' k k' Means has_input texts ending
  runs one no_fault one_fault = record {
    run = run;
    answers = λ w means. answers one no_fault w means;
    refuses = λ w means. refuses one no_fault w means one_fault;
    complete = λ w means. complete one no_fault w means;
    usage = usage;
    no_words = no_words;
    done = done;
    rejected = rejected;
    refused = refused;
    read_fault = read_fault;
    else_no_fault = else_no_fault;
    write_fault = write_fault;
    written_in_part = written_in_part;
    too_long = too_long;
    else_within = else_within;
    untouched = untouched;
    usage_unread = usage_unread;
    refused_unread = refused_unread;
    unread = λ w means none. unread (λ v other. subst (λ x. has_input x ≡ false) (one w v means other) none);
    read_counted = read_counted;
    write_counted = write_counted;
    unfailing_source = unfailing_source;
    unfailing_sink = unfailing_sink;
  }

-- a program that rejects nothing is done where it answers
module _ {S K W : Type 0} {left : S → Option (List ℕ)} {reads : S → ℕ} {taken : K → Option (List ℕ)} {writes : K
    → ℕ} {d : Declared} {s s' : S} {k k' : K} {Means : W → Type 0} {has_input : W → Bool}
    (outputs : W → Outputs) {ending : Ending} (run : IsRun left reads taken writes d s s' k k' Means has_input
    (λ w. never_rejecting (outputs w)) ending) (one : (v w : W) → Means v → Means w → v ≡ w) (no_fault : (e : DefinitionError) → AreValid d
    → HasFirstFault d e → ⊥) (w : W) (means : Means w) where
  pub output : WritesOutput left reads taken writes d s s' k k' (has_input w) (outputs w) ending
  output valid memory input before given taken_is no_write =
      by (answers run one no_fault w means valid memory input before given taken_is no_write)
    where
      by : ((is_rejection : Bool) × (text : List ℕ) × never_rejecting (outputs w) d input is_rejection text
          × (ending ≡ written_as is_rejection) × (taken k' ≡ Some (before ++ text)))
          → (ending ≡ Done) × (text : List ℕ) × outputs w d input text × (taken k' ≡ Some (before ++ text))
      by (false, text, answered, e, took) = (e, text, answered, took)
      by (true, text, answered, e, took) = absurd answered
