-- A usage line is plain if the names of the commands are.
use Rattle.std.proofs.Common.{◌≡◌, ℕ, suc, ◌<◌, ◌≤◌, ◌⊎◌, inl, inr, ⊎_elim, List, [], ◌∷◌, ◌++◌, codes, slice_get, Option, None, Some}
use Rattle.std.proofs.Common.{flat_map, refl, sym, subst, arith}
use Rattle.std.specs.Char.Escape.{escape_ascii}
use Rattle.std.proofs.lemmas.Bool.{cases_lt}
use Rattle.meta_command_line.specs.Usage.{IsPlain, escaped, IsShown, IsShownAt, misuse_text, misuse_place, TellsWrong, command_after_comma}
use Rattle.meta_command_line.specs.Usage.{commands_text, commands_told, ArePlainlyNamed}
use Rattle.meta_command_line.specs.declared.manual.CommandForm.{CommandForm}
use Rattle.meta_command_line.specs.declared.misuse.Misuse.{Misuse}
use Rattle.meta_command_line.specs.declared.misuse.Misuse.TheVariants.{NoWord, NoCommand, NoNumber, WordTooMany, NumberMissing}
use Rattle.meta_command_line.proofs.Plain.{plain_nil, plain_cons, plain_first, plain_tail, plain_append, plain_flat_map, plain_from, escape_plain}

-- a word is plain or it isn't
plain_or_not : (xs : List ℕ) → IsPlain xs ⊎ (IsPlain xs → ⊥)
plain_or_not [] = inl plain_nil
plain_or_not (x ∷ xs) = ⊎_elim
    (λ low. inr (λ all. let here = plain_first x xs all in omega (arith, low, here.0)))
    (λ least. ⊎_elim
    (λ most. ⊎_elim
    (λ plain. inl (plain_cons x xs (least, most) plain))
    (λ not_plain. inr (λ all. not_plain (plain_tail x xs all)))
    (plain_or_not xs))
    (λ high. inr (λ all. let here = plain_first x xs all in omega (arith, high, here.1)))
    (cases_lt x 127))
    (cases_lt x 32)

-- a text with escapes is plain
pub escaped_plain : (word : List ℕ) {shown : List ℕ} → shown ≡ escaped word → IsPlain shown
escaped_plain word is =
    subst IsPlain (sym is)
    (plain_append (codes "\"") (flat_map escape_ascii word ++ codes "\"") (plain_from (codes "\"") refl)
    (plain_append (flat_map escape_ascii word) (codes "\"") (plain_flat_map escape_ascii word (λ k b at. escape_plain b))
    (plain_from (codes "\"") refl)))

shown_plain : (word shown : List ℕ) → IsShown word shown → IsPlain shown
shown_plain word shown h = ⊎_elim
    (λ plain. subst IsPlain (sym (h.plain plain)) (plain_append (codes "'") (word ++ codes "'") (plain_from (codes "'") refl)
    (plain_append word (codes "'") plain (plain_from (codes "'") refl))))
    (λ not_plain. escaped_plain word (h.others not_plain))
    (plain_or_not word)

shown_at_plain : (words : List (List ℕ)) (place : ℕ) (shown : List ℕ) → IsShownAt words place shown → IsPlain shown
shown_at_plain words place shown h = by_case (slice_get words place) refl
  where
    by_case : (o : Option (List ℕ)) → slice_get words place ≡ o → IsPlain shown
    by_case None e = subst IsPlain (sym (h.none e)) plain_nil
    by_case (Some word) e = shown_plain word shown (h.word word e)

wrong_text_plain : (m : Misuse) (name word : List ℕ) → IsPlain name → IsPlain word → IsPlain (misuse_text m name word)
wrong_text_plain NoWord name word n w = plain_append (codes "no command ") name (plain_from (codes "no command ") refl) n
wrong_text_plain NoCommand name word n w = plain_append (codes "no command ") name (plain_from (codes "no command ") refl) n
wrong_text_plain (NoNumber k) name word n w =
    plain_append word _ w (plain_append (codes " is no number for ") name (plain_from (codes " is no number for ") refl) n)
wrong_text_plain (WordTooMany k) name word n w =
    plain_append word _ w (plain_append (codes " is a word too many for ") name (plain_from (codes " is a word too many for ") refl) n)
wrong_text_plain NumberMissing name word n w =
    plain_append (codes "a number is missing for ") name (plain_from (codes "a number is missing for ") refl) n

-- the text on what is wrong is plain
pub wrong_plain : (words : List (List ℕ)) (m : Misuse) (text : List ℕ) → TellsWrong words m text → IsPlain text
wrong_plain [] m text is = subst IsPlain (sym is) (plain_from (codes "no command") refl)
wrong_plain (name ∷ after) m text h =
    subst IsPlain (sym h.is) (wrong_text_plain m h.name_shown h.word_shown (shown_plain name h.name_shown h.shows_name)
    (shown_at_plain after (misuse_place m) h.word_shown h.shows_word))

commands_plain : (commands : List CommandForm) → ArePlainlyNamed commands → IsPlain (commands_text commands)
commands_plain [] named = plain_from (codes "the program takes no words") refl
commands_plain (command ∷ commands) named =
    plain_append (codes "the commands are ") _ (plain_from (codes "the commands are ") refl)
    (plain_append command.name.now _ (named 0 command refl)
    (plain_flat_map command_after_comma commands (λ k c at. plain_append (codes ", ") c.name.now (plain_from (codes ", ") refl)
    (named (suc k) c at))))

told_plain : (commands : List CommandForm) (m : Misuse) → ArePlainlyNamed commands → IsPlain (commands_told commands m)
told_plain commands NoWord named =
    plain_append (codes ": ") (commands_text commands) (plain_from (codes ": ") refl) (commands_plain commands named)
told_plain commands NoCommand named =
    plain_append (codes ": ") (commands_text commands) (plain_from (codes ": ") refl) (commands_plain commands named)
told_plain commands (NoNumber k) named = plain_nil
told_plain commands (WordTooMany k) named = plain_nil
told_plain commands NumberMissing named = plain_nil

-- a usage line is plain
pub line_plain : (commands : List CommandForm) (words : List (List ℕ)) (m : Misuse) (wrong line : List ℕ) → TellsWrong words m wrong
    → line ≡ wrong ++ (commands_told commands m ++ codes "; --help says more") → ArePlainlyNamed commands → IsPlain line
line_plain commands words m wrong line told is named =
    subst IsPlain (sym is)
    (plain_append wrong (commands_told commands m ++ codes "; --help says more") (wrong_plain words m wrong told)
    (plain_append (commands_told commands m) (codes "; --help says more") (told_plain commands m named)
    (plain_from (codes "; --help says more") refl)))

-- if there are no words, the line says just that there is no command
pub no_command_plain : (line : List ℕ) → line ≡ codes "no command" → IsPlain line
no_command_plain line is = subst IsPlain (sym is) (plain_from (codes "no command") refl)
