-- The commands of `run`, and their words.
use Rattle.std.specs.Prelude.{◌≡◌, ℕ, ◌<◌, ◌^◌, ⊤, List, [], ◌∷◌, codes}
use Rattle.std.specs.Fmt.{decimal}
use Rattle.meta_query.specs.declared.command.Command.{Command}
use Rattle.meta_query.specs.declared.command.Command.TheVariants.{Query, Recheck, Tables, Types, Settings, Instructions, Builder, Synth}

-- the name of a command
abbrev pub command_name : Command → List ℕ
command_name Query = codes "query"
command_name Recheck = codes "recheck"
command_name Tables = codes "tables"
command_name Types = codes "types"
command_name Settings = codes "settings"
command_name Instructions = codes "instructions"
command_name Builder = codes "builder"
command_name (Synth n) = codes "synth"

-- the words after the name: the number in decimal, if the command has one
abbrev pub number_words : Command → List (List ℕ)
number_words Query = []
number_words Recheck = []
number_words Tables = []
number_words Types = []
number_words Settings = []
number_words Instructions = []
number_words Builder = []
number_words (Synth n) = decimal n ∷ []

-- the words of a command: its name and the words after it
abbrev pub command_words : Command → List (List ℕ)
command_words command = command_name command ∷ number_words command

-- the number of a command, if it has one, has 32 bits
abbrev pub HasNumber : Command → Type 0
HasNumber Query = ⊤
HasNumber Recheck = ⊤
HasNumber Tables = ⊤
HasNumber Types = ⊤
HasNumber Settings = ⊤
HasNumber Instructions = ⊤
HasNumber Builder = ⊤
HasNumber (Synth n) = n < 2 ^ 32

-- the words are those of the command
pub record AreWordsOf (command : Command) (words : List (List ℕ)) : Type 0 where
  pub number : HasNumber command
  pub are : words ≡ command_words command

-- the words are those of some command
abbrev pub IsCommand : List (List ℕ) → Type 0
IsCommand words = (command : Command) × AreWordsOf command words
