-- Words that are taken have no misuse.
use Rattle.std.proofs.Common.{◌≡◌, ◌≢◌, ◌∙◌, ℕ, ◌+◌, ◌<◌, ◌≤◌, ⊎_elim, List, [], ◌∷◌, length, slice_get, Some, refl, sym, ap, subst, arith}
use Rattle.std.proofs.lemmas.Bool.{cases_lt}
use Rattle.std.proofs.lemmas.Option.{same_Some, slice_get_within}
use Rattle.meta_command_line.specs.Misuse.{AreNumbersIn, IsFirstNamed, AreTaken}
use Rattle.meta_command_line.specs.Misuse.{IsMisuseAfter, IsMisuseOf, IsMisuse}
use Rattle.meta_command_line.specs.declared.manual.CommandForm.{CommandForm}
use Rattle.meta_command_line.specs.declared.manual.Range.{Range}
use Rattle.meta_command_line.specs.declared.misuse.Misuse.{Misuse}
use Rattle.meta_command_line.specs.declared.misuse.Misuse.TheVariants.{NoWord, NoCommand, NoNumber, WordTooMany, NumberMissing}

-- the first of the words, and those after it
abbrev head_of : List ℕ → List (List ℕ) → List ℕ
head_of d [] = d
head_of d (x ∷ xs) = x

abbrev tail_of : List (List ℕ) → List (List ℕ)
tail_of [] = []
tail_of (x ∷ xs) = xs

-- at most one command is the first of a name
one_first : (commands : List CommandForm) (name : List ℕ) (c d : CommandForm) → IsFirstNamed commands name c
    → IsFirstNamed commands name d → c ≡ d
one_first commands name c d h k = ⊎_elim
    (λ below. absurd (k.first h.named.place c below h.named.at h.named.name_is))
    (λ least. ⊎_elim
    (λ below. absurd (h.first k.named.place d below k.named.at k.named.name_is))
    (λ most.
    let place : h.named.place ≡ k.named.place = omega (arith, least, most) in
    same_Some _ _ (sym h.named.at ∙ subst (λ n. slice_get commands n ≡ Some d) (sym place) k.named.at))
    (cases_lt k.named.place h.named.place))
    (cases_lt h.named.place k.named.place)

-- words that write the numbers have no misuse after the name
no_misuse_after : (ranges : List Range) (words : List (List ℕ)) (m : Misuse) → AreNumbersIn ranges words
    → IsMisuseAfter ranges words m → ⊥
no_misuse_after ranges words NoWord are h = h
no_misuse_after ranges words NoCommand are h = h
no_misuse_after ranges words (NoNumber k) are h = h.5 (are.numbers k h.1 h.2 (slice_get_within ranges k h.1 h.3) h.3 h.4)
no_misuse_after ranges words (WordTooMany k) are h =
    let count : length words ≡ length ranges = are.count in
    let place : k ≡ length ranges = h.1 in
    let within : k < length words = h.2 in
    omega arith
no_misuse_after ranges words NumberMissing are h =
    let count : length words ≡ length ranges = are.count in
    let few : length words < length ranges = h.1 in
    omega arith

of_command : (commands : List CommandForm) (words : List (List ℕ)) (m : Misuse) → AreTaken commands words → IsMisuseOf commands words m → ⊥
of_command commands words m t h =
    let mine = t.are.command.name.now in
    let same : mine ∷ t.are.after ≡ h.command.name.now ∷ h.after = sym t.are.are ∙ h.are in
    let name : mine ≡ h.command.name.now = ap (head_of []) same in
    let after : t.are.after ≡ h.after = ap tail_of same in
    let first : IsFirstNamed commands mine t.are.command = record { named = t.are.named; first = t.first } in
    let other : IsFirstNamed commands mine h.command = subst (λ (n : List ℕ). IsFirstNamed commands n h.command) (sym name) h.named in
    let command : t.are.command ≡ h.command = one_first commands mine t.are.command h.command first other in
    let numbers : AreNumbersIn h.command.numbers.now h.after =
    subst (λ (c : CommandForm). AreNumbersIn c.numbers.now h.after) command
    (subst (AreNumbersIn t.are.command.numbers.now) after t.are.numbers) in
    no_misuse_after h.command.numbers.now h.after m numbers h.misuse

pub never_both : (commands : List CommandForm) (words : List (List ℕ)) (m : Misuse) → AreTaken commands words
    → IsMisuse commands words m → ⊥
never_both commands words NoWord t h =
    let clash : t.are.command.name.now ∷ t.are.after ≡ [] = sym t.are.are ∙ h in
    absurd (let count = ap length clash in omega (arith, count))
never_both commands words NoCommand t h =
    let same : t.are.command.name.now ∷ t.are.after ≡ h.0 ∷ h.1 = sym t.are.are ∙ h.2 in
    h.3 t.are.named.place t.are.command t.are.named.at (ap (head_of []) same)
never_both commands words (NoNumber k) t h = of_command commands words (NoNumber k) t h
never_both commands words (WordTooMany k) t h = of_command commands words (WordTooMany k) t h
never_both commands words NumberMissing t h = of_command commands words NumberMissing t h
