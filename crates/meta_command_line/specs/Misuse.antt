-- Why words are no command of a program.
--     AreCommandWords commands words   they are a command
--     AreTaken commands words       they are the first command of its name
--     IsMisuse commands words m     they aren't taken, and m says which word is the first that is wrong
use Rattle.std.specs.Prelude.{◌≡◌, ◌≢◌, ◌<◌, ◌≤◌, ℕ, List, [], ◌∷◌, length, slice_get, Some}
use Rattle.std.specs.Fmt.{decimal}
use Rattle.meta_command_line.specs.declared.manual.CommandForm.{CommandForm}
use Rattle.meta_command_line.specs.declared.manual.Range.{Range}
use Rattle.meta_command_line.specs.declared.misuse.Misuse.{Misuse}
use Rattle.meta_command_line.specs.declared.misuse.Misuse.TheVariants.{NoWord, NoCommand, NoNumber, WordTooMany, NumberMissing}

-- the word writes a number of the range: in decimal, with no zero before it
pub record IsNumberIn (range : Range) (word : List ℕ) : Type 0 where
  pub number : ℕ
  pub written : word ≡ decimal number
  pub least : range.least ≤ number
  pub most : number ≤ range.most

-- the first n words write numbers of the first n ranges, each of its own range, as far as there are both
abbrev pub AreNumbersTo : ℕ → List Range → List (List ℕ) → Type 0
AreNumbersTo count ranges words = (k : ℕ) (range : Range) (word : List ℕ) → k < count
    → slice_get ranges k ≡ Some range → slice_get words k ≡ Some word → IsNumberIn range word

-- the words write numbers of the ranges, one each
pub record AreNumbersIn (ranges : List Range) (words : List (List ℕ)) : Type 0 where
  pub count : length words ≡ length ranges
  pub numbers : AreNumbersTo (length ranges) ranges words

-- the command is one of these, and this is its name
pub record IsNamed (commands : List CommandForm) (name : List ℕ) (command : CommandForm) : Type 0 where
  pub place : ℕ
  pub at : slice_get commands place ≡ Some command
  pub name_is : command.name.now ≡ name

-- none of the commands before this place has this name
abbrev pub NamesNoneBefore : ℕ → List CommandForm → List ℕ → Type 0
NamesNoneBefore place commands name = (k : ℕ) (command : CommandForm) → k < place
    → slice_get commands k ≡ Some command → command.name.now ≢ name

-- the command is the first of these with this name
pub record IsFirstNamed (commands : List CommandForm) (name : List ℕ) (command : CommandForm) : Type 0 where
  pub named : IsNamed commands name command
  pub first : NamesNoneBefore named.place commands name

-- no command has this name
abbrev pub NamesNone : List CommandForm → List ℕ → Type 0
NamesNone commands name = (k : ℕ) (command : CommandForm) → slice_get commands k ≡ Some command → command.name.now ≢ name

-- the words are a command: its name, and its numbers after it
pub record AreCommandWords (commands : List CommandForm) (words : List (List ℕ)) : Type 0 where
  pub command : CommandForm
  pub after : List (List ℕ)
  pub are : words ≡ command.name.now ∷ after
  pub named : IsNamed commands command.name.now command
  pub numbers : AreNumbersIn command.numbers.now after

-- the words are a command, and none of the commands before it has its name
pub record AreTaken (commands : List CommandForm) (words : List (List ℕ)) : Type 0 where
  pub are : AreCommandWords commands words
  pub first : NamesNoneBefore are.named.place commands are.command.name.now

-- the words after a name aren't numbers of these ranges, and m says which word is the first that is wrong
abbrev pub IsMisuseAfter : List Range → List (List ℕ) → Misuse → Type 0
IsMisuseAfter ranges words NoWord = ⊥
IsMisuseAfter ranges words NoCommand = ⊥
IsMisuseAfter ranges words (NoNumber k) = AreNumbersTo k ranges words × (range : Range) × (word : List ℕ)
    × (slice_get ranges k ≡ Some range) × (slice_get words k ≡ Some word) × (IsNumberIn range word → ⊥)
IsMisuseAfter ranges words (WordTooMany k) = AreNumbersTo k ranges words × (k ≡ length ranges) × (k < length words)
IsMisuseAfter ranges words NumberMissing = AreNumbersTo (length words) ranges words × (length words < length ranges)

-- the words begin with the name of a command, the first of this name, and the words after it have this misuse
pub record IsMisuseOf (commands : List CommandForm) (words : List (List ℕ)) (m : Misuse) : Type 0 where
  pub command : CommandForm
  pub after : List (List ℕ)
  pub are : words ≡ command.name.now ∷ after
  pub named : IsFirstNamed commands command.name.now command
  pub misuse : IsMisuseAfter command.numbers.now after m

-- the words aren't taken, and m says which word is the first that is wrong
abbrev pub IsMisuse : List CommandForm → List (List ℕ) → Misuse → Type 0
IsMisuse commands words NoWord = words ≡ []
IsMisuse commands words NoCommand = (name : List ℕ) × (after : List (List ℕ)) × (words ≡ name ∷ after) × NamesNone commands name
IsMisuse commands words (NoNumber k) = IsMisuseOf commands words (NoNumber k)
IsMisuse commands words (WordTooMany k) = IsMisuseOf commands words (WordTooMany k)
IsMisuse commands words NumberMissing = IsMisuseOf commands words NumberMissing
