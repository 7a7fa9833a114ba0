-- The lines of a text in which its tokens stand.
use Rattle.std.specs.Prelude.{ℕ, ◌+◌, ◌==◌, nat_lt, List, [], ◌∷◌, ◌++◌, length, replicate, slice_index, if◌then◌else◌}
use Rattle.meta_file_syntax.specs.declared.token.Token.{Token}
use Rattle.meta_file_syntax.specs.declared.scanner.Mode.{Mode}
use Rattle.meta_file_syntax.specs.declared.scanner.Mode.TheVariants.{Start}
use Rattle.meta_file_syntax.specs.Scan.{ended, given, after}

-- the line after a byte: a line end ends its own line
abbrev pub line_past : ℕ → ℕ → ℕ
line_past line c = if c == 10 then line + 1 else line

-- this line for each of the tokens
abbrev pub each : ℕ → List Token → List ℕ
each line ts = replicate (length ts) line

-- the line of each token of a text, from a state and a line on
abbrev pub token_lines : Mode → List ℕ → ℕ → List ℕ → List ℕ
token_lines mode bytes line [] = each line (ended mode bytes)
token_lines mode bytes line (c ∷ cs) =
    each line (given mode bytes c) ++ token_lines (after mode bytes c).mode (after mode bytes c).bytes (line_past line c) cs

-- the line of each token of a text, whose first line is 1
abbrev pub lines_in : List ℕ → List ℕ
lines_in text = token_lines Start [] 1 text

-- the line in which a text ends that begins in this line
abbrev pub line_after : ℕ → List ℕ → ℕ
line_after line [] = line
line_after line (c ∷ cs) = line_after (line_past line c) cs

-- the line of the last byte of a text that begins in a line; last where it has no byte
abbrev pub last_line_from : ℕ → ℕ → List ℕ → ℕ
last_line_from last line [] = last
last_line_from last line (c ∷ cs) = last_line_from line (line_past line c) cs

-- the line of the last byte, or 1
abbrev pub last_line_in : List ℕ → ℕ
last_line_in text = last_line_from 1 1 text

-- the line of the token at a place: the last line of the text if there is no such token
abbrev pub line_at : List ℕ → ℕ → ℕ → ℕ
line_at lines last place = if nat_lt place (length lines) then slice_index lines place else last
