-- The words after the name of a command, one after the other.
use Rattle.std.proofs.Common.{◌≡◌, ◌≢◌, ℕ, suc, ◌+◌, ◌-◌, ◌<◌, ◌≤◌, ⊎_elim, List, [], ◌∷◌, length, get_or, take, drop, slice_get, Option}
use Rattle.std.proofs.Common.{None, Some, IfSome, IfNone, refl, subst, sym, ap, ◌∙◌, arith}
use Rattle.std.proofs.lemmas.Bool.{cases_lt}
use Rattle.std.proofs.lemmas.List.{take_all}
use Rattle.std.proofs.lemmas.Option.{same_Some}
use Rattle.meta_command_line.specs.Misuse.{IsNumberIn, AreNumbersTo, AreNumbersIn, NamesNoneBefore, IsFirstNamed, AreTaken, IsMisuseAfter}
use Rattle.meta_command_line.specs.Misuse.{IsMisuseOf, IsMisuse}
use Rattle.meta_command_line.specs.declared.manual.CommandForm.{CommandForm}
use Rattle.meta_command_line.specs.declared.manual.Range.{Range}
use Rattle.meta_command_line.specs.declared.misuse.Misuse.{Misuse}
use Rattle.meta_command_line.specs.declared.misuse.Misuse.TheVariants.{NoWord, NoCommand, NoNumber, WordTooMany, NumberMissing}

-- one number more
pub numbers_more : (ranges : List Range) (words : List (List ℕ)) (k : ℕ) (range : Range) (word : List ℕ)
    → slice_get ranges k ≡ Some range → slice_get words k ≡ Some word → IsNumberIn range word
    → AreNumbersTo k ranges words → AreNumbersTo (k + 1) ranges words
numbers_more ranges words k range word at_range at_word is held j r w below jr jw = ⊎_elim
    (λ l. held j r w l jr jw)
    (λ l.
    let same : j ≡ k = omega (arith, l, below) in
    let r_is : range ≡ r = same_Some _ _ (sym at_range ∙ subst (λ n. slice_get ranges n ≡ Some r) same jr) in
    let w_is : word ≡ w = same_Some _ _ (sym at_word ∙ subst (λ n. slice_get words n ≡ Some w) same jw) in
    subst (λ x. IsNumberIn x w) r_is (subst (IsNumberIn range) w_is is))
    (cases_lt j k)

-- one command more has another name
pub others_more : (commands : List CommandForm) (k : ℕ) (command : CommandForm) (name : List ℕ)
    → slice_get commands k ≡ Some command → command.name.now ≢ name
    → ((j : ℕ) (c : CommandForm) → j < k → slice_get commands j ≡ Some c → c.name.now ≢ name)
    → (j : ℕ) (c : CommandForm) → j < k + 1 → slice_get commands j ≡ Some c → c.name.now ≢ name
others_more commands k command name here other none j c below at = ⊎_elim
    (λ l. none j c l at)
    (λ l.
    let same : j ≡ k = omega (arith, l, below) in
    let c_is : command ≡ c = same_Some _ _ (sym here ∙ subst (λ n. slice_get commands n ≡ Some c) same at) in
    subst (λ (x : CommandForm). x.name.now ≢ name) c_is other)
    (cases_lt j k)

-- words are the first of them, and those after it
pub cut : (words : List (List ℕ)) (name : List ℕ) → 1 ≤ length words → name ≡ get_or words 0 name
    → words ≡ name ∷ take (length words - 1) (drop 1 words)
cut [] name some is = let bad : ⊥ = omega arith in absurd bad
cut (word ∷ words) name some is =
    let count : suc (length words) - 1 ≡ length words = omega arith in
    let others : take (suc (length words) - 1) words ≡ words = ap (λ (n : ℕ). take n words) count
    ∙ take_all (length words) words (omega arith) in
    ap (λ (ws : List (List ℕ)). word ∷ ws) (sym others) ∙ ap (λ (n : List ℕ). n ∷ take (suc (length words) - 1) words) (sym is)

-- a command is the first of its own name
pub own_name : (commands : List CommandForm) (name : List ℕ) (command : CommandForm)
    → IsFirstNamed commands name command → IsFirstNamed commands command.name.now command
own_name commands name command h = record {
  named = record { place = h.named.place; at = h.named.at; name_is = refl };
  first = subst (λ (n : List ℕ). NamesNoneBefore h.named.place commands n) (sym h.named.name_is) h.first;
}

-- if the words after the name of a command are its numbers, the words are taken
pub taken_after : (commands : List CommandForm) (words : List (List ℕ)) (name : List ℕ) (after : List (List ℕ))
    (command : CommandForm) (misuse : Option Misuse) → words ≡ name ∷ after → IsFirstNamed commands name command
    → IfNone misuse (AreNumbersIn command.numbers.now after) → IfNone misuse (AreTaken commands words)
taken_after commands words name after command None are named h =
    let own = own_name commands name command named in
    record {
      are = record {
        command = command;
        after = after;
        are = are ∙ ap (λ (n : List ℕ). n ∷ after) (sym named.named.name_is);
        named = own.named;
        numbers = h;
      };
      first = own.first;
    }
taken_after commands words name after command (Some m) are named h = tt

-- what is wrong after the name of a command is wrong with the words
pub misuse_after : (commands : List CommandForm) (words : List (List ℕ)) (name : List ℕ) (after : List (List ℕ))
    (command : CommandForm) (misuse : Option Misuse) → words ≡ name ∷ after → IsFirstNamed commands name command
    → IfSome misuse (IsMisuseAfter command.numbers.now after) → IfSome misuse (IsMisuse commands words)
misuse_after commands words name after command None are named h = tt
misuse_after commands words name after command (Some m) are named h = by_case m h
  where
    of_command : (m : Misuse) → IsMisuseAfter command.numbers.now after m → IsMisuseOf commands words m
    of_command m h = record {
      command = command;
      after = after;
      are = are ∙ ap (λ (n : List ℕ). n ∷ after) (sym named.named.name_is);
      named = own_name commands name command named;
      misuse = h;
    }

    by_case : (m : Misuse) → IsMisuseAfter command.numbers.now after m → IsMisuse commands words m
    by_case NoWord h = absurd h
    by_case NoCommand h = absurd h
    by_case (NoNumber k) h = of_command (NoNumber k) h
    by_case (WordTooMany k) h = of_command (WordTooMany k) h
    by_case NumberMissing h = of_command NumberMissing h
