-- The forms of the lines that make a request.
--     form_words form      the words of a line of this form
--     IsNamed form         the name in it has bytes
use Rattle.std.specs.Borrow.{Bor}
use Rattle.std.specs.Prelude.{ℕ, ◌<◌, List, [], ◌∷◌, length, Option, Some, None, codes}
use Rattle.meta_query_lines.specs.declared.request.RequestForm.{RequestForm}
use Rattle.meta_query_lines.specs.declared.request.RequestForm.TheVariants.{Types, Find, Names}

-- the word, if there is one
abbrev pub optional_word : Option (Bor (List ℕ)) → List (List ℕ)
optional_word None = []
optional_word (Some word) = word.now ∷ []

-- the words of a line of this form
abbrev pub form_words : RequestForm → List (List ℕ)
form_words (Types w) = codes "types" ∷ w.name.now ∷ optional_word w.control
form_words (Find w) = codes "find" ∷ w.results.now ∷ w.values.now ∷ []
form_words (Names name) = codes "list" ∷ optional_word name

-- the name in it, if it has one, has bytes
abbrev pub IsNamed : RequestForm → Type 0
IsNamed (Types w) = 0 < length w.name.now
IsNamed (Find w) = Unit {0}
IsNamed (Names None) = Unit {0}
IsNamed (Names (Some name)) = 0 < length name.now
