-- The line that names the wrong word of words that are no command.
--     IsUsageLine commands words line     the line names the wrong word, by a misuse of the words, and lists the commands if they name none
use Rattle.std.specs.Prelude.{◌≡◌, ◌≤◌, ◌<◌, ℕ, List, [], ◌∷◌, ◌++◌, codes, slice_get, None, Some}
use Rattle.std.specs.Char.Escape.{escape_ascii}
use Rattle.std.specs.List.{flat_map}
use Rattle.meta_command_line.specs.Misuse.{IsMisuse}
use Rattle.meta_command_line.specs.declared.manual.CommandForm.{CommandForm}
use Rattle.meta_command_line.specs.declared.misuse.Misuse.{Misuse}
use Rattle.meta_command_line.specs.declared.misuse.Misuse.TheVariants.{NoWord, NoCommand, NoNumber, WordTooMany, NumberMissing}

-- each byte is a letter, a digit, a mark or a space of ASCII
abbrev pub IsPlain : List ℕ → Type 0
IsPlain word = (k byte : ℕ) → slice_get word k ≡ Some byte → (32 ≤ byte) × (byte < 127)

-- the word between double quotes, each byte as `u8::escape_ascii` writes it: `\n`, `\"`, `\x1b`, or the byte itself if it is plain
abbrev pub escaped : List ℕ → List ℕ
escaped word = codes "\"" ++ (flat_map escape_ascii word ++ codes "\"")

-- what a line shows of a word: a plain word stands unchanged between quotes, and any other with escapes
pub record IsShown (word shown : List ℕ) : Type 0 where
  pub plain : IsPlain word → shown ≡ codes "'" ++ (word ++ codes "'")
  pub others : (IsPlain word → ⊥) → shown ≡ escaped word

-- the same for the word at a place, and no text if there is no word there
pub record IsShownAt (words : List (List ℕ)) (place : ℕ) (shown : List ℕ) : Type 0 where
  pub word : (word : List ℕ) → slice_get words place ≡ Some word → IsShown word shown
  pub none : slice_get words place ≡ None → shown ≡ []

-- the text on a misuse of the words after a name, by the name and the wrong word as they are shown
abbrev pub misuse_text : Misuse → List ℕ → List ℕ → List ℕ
misuse_text NoWord name word = codes "no command " ++ name
misuse_text NoCommand name word = codes "no command " ++ name
misuse_text (NoNumber place) name word = word ++ (codes " is no number for " ++ name)
misuse_text (WordTooMany place) name word = word ++ (codes " is a word too many for " ++ name)
misuse_text NumberMissing name word = codes "a number is missing for " ++ name

-- the place, after the name, of the word that is shown
abbrev pub misuse_place : Misuse → ℕ
misuse_place NoWord = 0
misuse_place NoCommand = 0
misuse_place (NoNumber place) = place
misuse_place (WordTooMany place) = place
misuse_place NumberMissing = 0

-- the text says what is wrong with the words by m, and names the word
pub record IsWrongAfter (name : List ℕ) (after : List (List ℕ)) (m : Misuse) (text : List ℕ) : Type 0 where
  pub name_shown : List ℕ
  pub shows_name : IsShown name name_shown
  pub word_shown : List ℕ
  pub shows_word : IsShownAt after (misuse_place m) word_shown
  pub is : text ≡ misuse_text m name_shown word_shown

-- the same for all words: the first is the name; if there is no word, the text says just that there is no command
abbrev pub TellsWrong : List (List ℕ) → Misuse → List ℕ → Type 0
TellsWrong [] m text = text ≡ codes "no command"
TellsWrong (name ∷ after) m text = IsWrongAfter name after m text

-- a name after a comma
abbrev pub command_after_comma : CommandForm → List ℕ
command_after_comma command = codes ", " ++ command.name.now

-- which commands there are, with commas between their names; if there are none, no word is taken
abbrev pub commands_text : List CommandForm → List ℕ
commands_text [] = codes "the program takes no words"
commands_text (command ∷ commands) = codes "the commands are " ++ (command.name.now ++ flat_map command_after_comma commands)

-- the list of the commands, if the words name none of them; after the name of a command the others don't matter
abbrev pub commands_told : List CommandForm → Misuse → List ℕ
commands_told commands NoWord = codes ": " ++ commands_text commands
commands_told commands NoCommand = codes ": " ++ commands_text commands
commands_told commands (NoNumber place) = []
commands_told commands (WordTooMany place) = []
commands_told commands NumberMissing = []

-- the name of each command is plain
abbrev pub ArePlainlyNamed : List CommandForm → Type 0
ArePlainlyNamed commands = (k : ℕ) (command : CommandForm) → slice_get commands k ≡ Some command → IsPlain command.name.now

-- the line names the wrong word, and the commands if the words name none of them
pub record IsUsageLine (commands : List CommandForm) (words : List (List ℕ)) (line : List ℕ) : Type 0 where
  pub misuse : Misuse
  pub is_misuse : IsMisuse commands words misuse
  pub wrong : List ℕ
  pub is_wrong : TellsWrong words misuse wrong
  pub is : line ≡ wrong ++ (commands_told commands misuse ++ codes "; --help says more")
