-- The answers of a service of settings to the lines of an input.
--     AreFlagAnswers g state lines out       the answers, from these values on
--     IsOutputOver g input out               the answers to the lines of an input, from the defaults on
use Rattle.std.specs.Prelude.{◌≡◌, ℕ, ◌⊎◌, List, [], ◌∷◌, ◌++◌, Option, None, Some, Result, Err, codes}
use Rattle.meta_lines.specs.Lines.{lines_of}
use Rattle.meta_flags.specs.Served.{SettingValue, Served, State, initial}
use Rattle.meta_flags.specs.Changes.{Sets, Enables, Gets}
use Rattle.meta_flags.specs.Toml.{toml_text}
use Rattle.meta_flags.specs.Replies.{change_line, got_line}
use Rattle.meta_flags.specs.Request.{Request, Set, Enable, Get, Toml, Requests}
use Rattle.meta_flags.specs.declared.flag_error.FlagError.{FlagError}
use Rattle.meta_flags.specs.declared.flag_error.FlagError.TheVariants.{Unknown}

-- what a request does to the values of the group, and the lines that answer it
abbrev pub IsServed : Served → Request → State → State → List ℕ → Type 0
IsServed g (Set name value) old new out = (r : Result (Unit {0}) FlagError) × Sets g name value old r new × (out ≡ change_line r)
IsServed g (Enable name) old new out = (r : Result (Unit {0}) FlagError) × Enables g name old r new × (out ≡ change_line r)
IsServed g (Get name) old new out = (r : Result SettingValue FlagError) × Gets g name old r × (new ≡ old) × (out ≡ got_line r)
IsServed g Toml old new out = (new ≡ old) × (out ≡ toml_text g old)

-- if there is no group, no entry has a name, and there is nothing to write
abbrev pub none_text : Request → List ℕ
none_text (Set name value) = change_line (Err Unknown)
none_text (Enable name) = change_line (Err Unknown)
none_text (Get name) = got_line (Err Unknown)
none_text Toml = []

abbrev pub IsServedBy : Option Served → Request → State → State → List ℕ → Type 0
IsServedBy None r old new out = (new ≡ old) × (out ≡ none_text r)
IsServedBy (Some g) r old new out = IsServed g r old new out

-- what a line that isn't empty does: what it asks for; or nothing, if it asks nothing, and the answer is `bad`
abbrev pub IsLineServed : Option Served → List ℕ → State → State → List ℕ → Type 0
IsLineServed g line old new out =
    ((r : Request) × Requests line r × IsServedBy g r old new out)
    ⊎ (((r : Request) → Requests line r → ⊥) × (new ≡ old) × (out ≡ codes "bad" ++ 10 ∷ []))

-- what a line does; an empty one does nothing
abbrev pub IsAnswered : Option Served → List ℕ → State → State → List ℕ → Type 0
IsAnswered g [] old new out = (new ≡ old) × (out ≡ [])
IsAnswered g (c ∷ cs) old new out = IsLineServed g (c ∷ cs) old new out

-- the answers to the lines, in order, each from the values that the lines before it left
abbrev pub AreFlagAnswers : Option Served → State → List (List ℕ) → List ℕ → Type 0
AreFlagAnswers g state [] out = out ≡ []
AreFlagAnswers g state (line ∷ lines) out = (next : State) × (first : List ℕ) × (rest : List ℕ) × IsAnswered g line state next first
    × AreFlagAnswers g next lines rest × (out ≡ first ++ rest)

-- the values at the beginning; there are none if there is no group
abbrev pub initial_of : Option Served → State
initial_of None = []
initial_of (Some g) = initial g

-- the output for an input: the answers to its lines over the group, from its defaults on
abbrev pub IsOutputOver : Option Served → List ℕ → List ℕ → Type 0
IsOutputOver g input out = AreFlagAnswers g (initial_of g) (lines_of input) out
