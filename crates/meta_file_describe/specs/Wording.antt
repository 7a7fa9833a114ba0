-- Bytes that are words, and lines of a text.
--     is_plain_word w     they are a word that is no keyword
--     name_for w          the name that they are, in quotes where they are no such word
--     doc_lines text      the lines of a documentation
use Rattle.std.specs.Prelude.{ℕ, Bool, false, ◌&&◌, ◌==◌, not, List, [], ◌∷◌, length, is_none, if◌then◌else◌}
use Rattle.std.specs.List.{list_all}
use Rattle.std.specs.Char.{is_ascii_digit}
use Rattle.meta_file_syntax.specs.Scan.{is_word_byte}
use Rattle.meta_file_syntax.specs.Keywords.{keyword_of}
use Rattle.meta_file_syntax.specs.declared.name.Name.{Name}
use Rattle.meta_file_syntax.specs.declared.name.Name.TheVariants as names

-- whether there are bytes, and words have each of them
abbrev pub are_word_bytes : List ℕ → Bool
are_word_bytes w = not (length w == 0) && list_all is_word_byte w

-- whether they are a word, a keyword perhaps, that doesn't begin with a digit
abbrev pub begins_as_name : List ℕ → Bool
begins_as_name [] = false
begins_as_name (c ∷ cs) = are_word_bytes (c ∷ cs) && not (is_ascii_digit c)

-- whether they are a word that is no keyword
abbrev pub is_plain_word : List ℕ → Bool
is_plain_word w = are_word_bytes w && is_none (keyword_of w)

-- the name that they are: in quotes where they are no word, or a keyword
abbrev pub name_for : List ℕ → Name
name_for w = if is_plain_word w then names.Plain w else names.Quoted w

-- the lines with this byte in front of the first
abbrev pub with_first : ℕ → List (List ℕ) → List (List ℕ)
with_first c [] = (c ∷ []) ∷ []
with_first c (line ∷ more) = (c ∷ line) ∷ more

-- the lines between the line ends of a text: one more than it has of these
abbrev pub lines_between : List ℕ → List (List ℕ)
lines_between [] = [] ∷ []
lines_between (c ∷ cs) = if c == 10 then [] ∷ lines_between cs else with_first c (lines_between cs)

-- the lines of a documentation, none where it is empty
abbrev pub doc_lines : List ℕ → List (List ℕ)
doc_lines [] = []
doc_lines (c ∷ cs) = lines_between (c ∷ cs)
