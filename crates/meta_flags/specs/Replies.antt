-- The lines that a service of settings answers.
use Rattle.std.specs.Prelude.{ℕ, List, [], ◌∷◌, ◌++◌, Result, Ok, Err, codes}
use Rattle.meta_flags.specs.Served.{SettingValue}
use Rattle.meta_flags.specs.Toml.{setting_value_text}
use Rattle.meta_flags.specs.declared.flag_error.FlagError.{FlagError}
use Rattle.meta_flags.specs.declared.flag_error.FlagError.TheVariants.{Unknown, Kind, Value}

-- the word for an error
abbrev pub error_text : FlagError → List ℕ
error_text Unknown = codes "unknown"
error_text Kind = codes "kind"
error_text Value = codes "value"

-- the line that answers a change, and the line that answers a question
abbrev pub change_line : Result (Unit {0}) FlagError → List ℕ
change_line (Ok done) = codes "ok" ++ 10 ∷ []
change_line (Err e) = error_text e ++ 10 ∷ []

abbrev pub got_line : Result SettingValue FlagError → List ℕ
got_line (Ok v) = setting_value_text v ++ 10 ∷ []
got_line (Err e) = error_text e ++ 10 ∷ []
