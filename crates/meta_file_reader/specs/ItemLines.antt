-- The lines of items: the line of an item is that of its keyword. Keywords stand nowhere else.
use Rattle.std.specs.Prelude.{ℕ, ◌+◌, List, [], ◌∷◌, ◌++◌, slice_index}
use Rattle.meta_file_syntax.specs.declared.token.Token.{Token}
use Rattle.meta_file_syntax.specs.declared.token.Token.TheVariants.{Key, Word, Quoted, Sign, Doc, Stray}

-- the line of a token, if it is a keyword
abbrev pub key_line : Token → ℕ → List ℕ
key_line (Key k) line = line ∷ []
key_line (Word w) line = []
key_line (Quoted t) line = []
key_line (Sign c) line = []
key_line (Doc d) line = []
key_line (Stray f) line = []

-- the line of each keyword among these tokens, of which the first stands at a place: each line stands at the place of its token
abbrev pub key_lines_from : ℕ → List Token → List ℕ → List ℕ
key_lines_from place [] lines = []
key_lines_from place (t ∷ ts) lines = key_line t (slice_index lines place) ++ key_lines_from (place + 1) ts lines

-- the line of each keyword among the tokens
abbrev pub key_lines : List Token → List ℕ → List ℕ
key_lines tokens lines = key_lines_from 0 tokens lines
