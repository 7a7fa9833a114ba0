-- The keywords and their words.
use Rattle.std.specs.Prelude.{ℕ, List, map, Option}
use denote.Enum.Declared.{tag_of}
use Rattle.meta_file_syntax.specs.WordTables.{with_word, word_at}
use Rattle.meta_file_syntax.specs.contracts.keyword.Keyword.{the_type}
use Rattle.meta_file_syntax.specs.declared.keyword.Keyword.{Keyword}
use Rattle.meta_file_syntax.specs.declared.keyword.TheConstants.{KEYWORDS}

-- the table of keywords and their words
abbrev pub keyword_table : List (Keyword × List ℕ)
keyword_table = map (λ row. (row.0, row.1.now)) KEYWORDS

-- the keyword that a word is, if it is one
unfoldable pub keyword_of : List ℕ → Option Keyword
keyword_of w = with_word keyword_table w

-- the word that a keyword is
abbrev pub keyword_text : Keyword → List ℕ
keyword_text k = word_at keyword_table (tag_of the_type k)
