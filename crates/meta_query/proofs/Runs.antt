-- What a run of a command does.
use Rattle.std.proofs.Common.{◌≡◌, ℕ, Bool, true, false, List, Option, refl, subst}
use Rattle.meta_types.specs.declared.fault.DefinitionError.{DefinitionError}
use Rattle.meta_build.specs.AllDeclared.{Declared, HasFirstFault, AreValid}
use Rattle.meta_run.specs.declared.ending.Ending.{Ending}
use Rattle.meta_run.specs.Run.{never_rejecting, IsRun, WritesOutput}
use Rattle.meta_run.proofs.Programs as lemma
use Rattle.meta_query.specs.Command.{AreWordsOf}
use Rattle.meta_query.specs.declared.command.Command.{Command}
use Rattle.meta_query.specs.Run.{IsOutputOf, has_input, HasInput, WritesText}
use Rattle.meta_query.proofs.Commands.{same_command}

-- if a test isn't true, it is false
is_false : (b : Bool) → (b ≡ true → ⊥) → b ≡ false
is_false true never = absurd (never refl)
is_false false never = refl

pub one_command : {words : List (List ℕ)} (c d : Command) → AreWordsOf c words → AreWordsOf d words → c ≡ d
one_command {words} c d = same_command c d words

module _ {S K : Type 0} {left : S → Option (List ℕ)} {reads : S → ℕ} {taken : K → Option (List ℕ)} {writes : K
    → ℕ} {d : Declared} {s s' : S} {k k' : K} {words : List (List ℕ)} {ending : Ending}
    (run : IsRun left reads taken writes d s s' k k' (λ (command : Command). AreWordsOf command words) has_input
    (λ command. never_rejecting (IsOutputOf command)) ending) where
  module _ (no_fault : (e : DefinitionError) → AreValid d → HasFirstFault d e → ⊥) where
    written : (command : Command) → AreWordsOf command words
        → WritesOutput left reads taken writes d s s' k k' (has_input command) (IsOutputOf command) ending
    written command is = lemma.output IsOutputOf run one_command no_fault command is

    pub headline : (command : Command) → HasInput command → AreWordsOf command words
        → WritesOutput left reads taken writes d s s' k k' true (IsOutputOf command) ending
    headline command has is = subst (λ b. WritesOutput left reads taken writes d s s' k k' b (IsOutputOf command) ending) has
        (written command is)

    pub texts : (command : Command) → WritesText command → AreWordsOf command words
        → WritesOutput left reads taken writes d s s' k k' false (IsOutputOf command) ending
    texts command text is = subst (λ b. WritesOutput left reads taken writes d s s' k k' b (IsOutputOf command) ending)
        (is_false (has_input command) text) (written command is)
