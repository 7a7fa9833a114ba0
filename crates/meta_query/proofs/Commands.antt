-- Words are those of at most one command.
use Rattle.std.proofs.Common.{◌≡◌, ℕ, ◌<◌, ◌^◌, ◌⊎◌, inl, inr, List, [], ◌∷◌, Option, Some, refl, sym, ap₂, ◌∙◌, arith}
use Rattle.std.specs.Prelude.{nat_eq}
use Rattle.std.specs.Cmp.Lexicographic.{pointwise}
use Rattle.std.specs.Fmt.{decimal}
use Rattle.std.specs.List.{find}
use Rattle.std.proofs.lemmas.Fmt.{decimal_injective}
use Rattle.meta_query.specs.Command.{command_name, number_words, command_words, HasNumber, AreWordsOf}
use Rattle.meta_query.specs.declared.command.Command.{Command}
use Rattle.meta_query.specs.declared.command.Command.TheVariants.{Query, Recheck, Tables, Types, Settings, Instructions, Builder, Synth}

-- ---- the name of a command determines it, but for its number

-- the number of a command, if it has one
abbrev command_number : Command → ℕ
command_number Query = 0
command_number Recheck = 0
command_number Tables = 0
command_number Types = 0
command_number Settings = 0
command_number Instructions = 0
command_number Builder = 0
command_number (Synth n) = n

-- all commands, with this number if they have one
abbrev commands : ℕ → List Command
commands n = Query ∷ Recheck ∷ Tables ∷ Types ∷ Settings ∷ Instructions ∷ Builder ∷ Synth n ∷ []

-- the first of them that has the name
abbrev numbered_command : List ℕ → ℕ → Option Command
numbered_command name n = find (λ c. pointwise nat_eq (command_name c) name) (commands n)

-- by its own name and number each is found
finds : (c : Command) → numbered_command (command_name c) (command_number c) ≡ Some c
finds Query = refl
finds Recheck = refl
finds Tables = refl
finds Types = refl
finds Settings = refl
finds Instructions = refl
finds Builder = refl
finds (Synth n) = refl

-- ---- what comes after the name determines the number

-- two numbers of 32 bits with the same decimal digits are equal
same_number : (m n : ℕ) → m < 2 ^ 32 → n < 2 ^ 32 → decimal m ≡ decimal n → m ≡ n
same_number m n few less e = decimal_injective m n (omega arith) (omega arith) e

-- the words are no number, and this is 0, or they are this number
abbrev StandsAfter : List (List ℕ) → ℕ → Type 0
StandsAfter words n = ((words ≡ []) × (n ≡ 0)) ⊎ ((words ≡ decimal n ∷ []) × (n < 2 ^ 32))

after_of : (c : Command) → HasNumber c → StandsAfter (number_words c) (command_number c)
after_of Query h = inl (refl, refl)
after_of Recheck h = inl (refl, refl)
after_of Tables h = inl (refl, refl)
after_of Types h = inl (refl, refl)
after_of Settings h = inl (refl, refl)
after_of Instructions h = inl (refl, refl)
after_of Builder h = inl (refl, refl)
after_of (Synth n) h = inr (refl, h)

one_after : (words others : List (List ℕ)) (m n : ℕ) → words ≡ others → StandsAfter words m → StandsAfter others n → m ≡ n
one_after words others m n e (inl (none, m_is)) (inl (no_other, n_is)) = m_is ∙ sym n_is
one_after words others m n e (inl (none, m_is)) (inr (some, few)) = absurd (cc)
one_after words others m n e (inr (some, few)) (inl (none, n_is)) = absurd (cc)
one_after words others m n e (inr (some, few)) (inr (other, less)) =
    let same : decimal m ≡ decimal n = cc in
    same_number m n few less same

-- ---- two commands have different words

pub same_command : (c d : Command) (words : List (List ℕ)) → AreWordsOf c words → AreWordsOf d words → c ≡ d
same_command c d words h g =
    let same : command_words c ≡ command_words d = sym h.are ∙ g.are in
    let name : command_name c ≡ command_name d = cc in
    let after : number_words c ≡ number_words d = cc in
    let number : command_number c ≡ command_number d =
    one_after (number_words c) (number_words d) (command_number c) (command_number d) after (after_of c h.number) (after_of d g.number)
    in
    let found : Some c ≡ Some d = sym (finds c) ∙ ap₂ numbered_command name number ∙ finds d in
    cc
