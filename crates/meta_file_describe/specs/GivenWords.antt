-- Words that are given to things, to each one of its own.
use Rattle.std.specs.Prelude.{ℕ, Bool, List, is_some}
use Rattle.meta_file_describe.specs.declared.words.Words.{Words}
use Rattle.meta_file_describe.specs.Counted.{kept_at}

-- whether the word is given, or is a name that has numbers after it
abbrev pub is_given : Words → List ℕ → Bool
is_given words word = is_some (kept_at words.given word)
