-- What a line asks of a service of settings.
--     Requests line r        the line asks r
use Rattle.std.specs.Prelude.{ℕ, List, [], ◌∷◌, codes}
use Rattle.meta_lines.specs.Words.{AreWords}
use Rattle.meta_flags.specs.declared.request.RequestWord.{RequestWord}
use Rattle.meta_flags.specs.declared.request.RequestWord.TheVariants as command
use Rattle.meta_flags.specs.declared.request.Request as code
use Rattle.meta_flags.specs.declared.request.Request.TheVariants as asked

-- what a line asks: that the setting of a name gets the value that is written; that the boolean or the preset of a name is enabled; what
-- the setting of a name is; or all values as text
pub data Request : Type 0 where
  Set : List ℕ → List ℕ → Request
  Enable : List ℕ → Request
  Get : List ℕ → Request
  Toml : Request

-- the words of the line that asks it
abbrev pub request_words : Request → List (List ℕ)
request_words (Set name value) = codes "set" ∷ name ∷ value ∷ []
request_words (Enable name) = codes "enable" ∷ name ∷ []
request_words (Get name) = codes "get" ∷ name ∷ []
request_words Toml = codes "toml" ∷ []

-- the line asks it
abbrev pub Requests : List ℕ → Request → Type 0
Requests line r = AreWords line (request_words r)

-- what a request of the program asks
abbrev pub request_of : code.Request → Request
request_of (asked.Set name value) = Set name.now value.now
request_of (asked.Enable name) = Enable name.now
request_of (asked.Get name) = Get name.now
request_of asked.Toml = Toml

-- the word of a command
abbrev pub command_word : RequestWord → List ℕ
command_word command.Set = codes "set"
command_word command.Enable = codes "enable"
command_word command.Get = codes "get"
command_word command.Toml = codes "toml"
