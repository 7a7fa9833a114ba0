-- A file is UTF-8: of a text that isn't, the lines before the first that isn't are read.
use Rattle.std.specs.Prelude.{ℕ, ◌+◌, ◌==◌, List, [], ◌∷◌, ◌++◌, take, if◌then◌else◌}
use Rattle.std.specs.Str.{is_utf8}
use Rattle.std.specs.Str.Lossy.{utf8_valid_len}
use Rattle.meta_file_syntax.specs.declared.token.Token.{Token}
use Rattle.meta_file_syntax.specs.declared.token.Token.TheVariants.{Stray}
use Rattle.meta_file_syntax.specs.declared.flaw.Flaw.TheVariants.{NotUtf8}
use Rattle.meta_file_syntax.specs.Scan.{tokens_in}
use Rattle.meta_file_syntax.specs.TokenLines.{lines_in, line_after, last_line_in}

-- where the line begins in which the byte after this one stands: after a line end, or where it began before
abbrev pub start_after : ℕ → ℕ → ℕ → ℕ
start_after start place c = if c == 10 then place + 1 else start

-- where the last line of a text begins, if the given bytes follow `place` others
abbrev pub last_start : ℕ → ℕ → List ℕ → ℕ
last_start start place [] = start
last_start start place (c ∷ cs) = last_start (start_after start place c) (place + 1) cs

-- the lines at the front of a text that have their line ends
abbrev pub whole_lines : List ℕ → List ℕ
whole_lines text = take (last_start 0 0 text) text

-- the lines before the first byte of a text at which no character begins
abbrev pub lines_before : List ℕ → List ℕ
lines_before text = whole_lines (take (utf8_valid_len text) text)

-- the tokens of a text: a line that isn't UTF-8 is a flaw, and the last token
abbrev pub text_tokens : List ℕ → List Token
text_tokens text = if is_utf8 text then tokens_in text else tokens_in (lines_before text) ++ Stray NotUtf8 ∷ []

-- the line of each of them
abbrev pub text_lines : List ℕ → List ℕ
text_lines text = if is_utf8 text then lines_in text else lines_in (lines_before text) ++ line_after 1 (lines_before text) ∷ []

-- the line of the last byte, or 1; in a text that isn't UTF-8 the line of the flaw
abbrev pub text_last_line : List ℕ → ℕ
text_last_line text = if is_utf8 text then last_line_in text else line_after 1 (lines_before text)
