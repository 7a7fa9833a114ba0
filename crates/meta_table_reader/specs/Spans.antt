-- What stands in a text up to where an item of it ends.
--     lacks stop text        the byte doesn't stand in the text
--     begins_with stop rest  the rest begins with the byte
--     is_line text           the text is one line, with its end
--     from_byte stop text    what a text has from the first such byte on
--     after_lines n text    what a text has after n lines
use Rattle.std.specs.Prelude.{ℕ, zero, suc, ◌==◌, Bool, true, false, List, [], ◌∷◌, drop, if◌then◌else◌, not}
use Rattle.std.specs.List.{list_all, position_or_len}

-- the byte doesn't stand in the text
abbrev pub lacks : ℕ → List ℕ → Bool
lacks stop text = list_all (λ c. not (c == stop)) text

-- the text begins with the byte
abbrev pub begins_with : ℕ → List ℕ → Bool
begins_with stop [] = false
begins_with stop (c ∷ cs) = c == stop

-- whether nothing is there
abbrev pub is_nothing : List ℕ → Bool
is_nothing [] = true
is_nothing (c ∷ cs) = false

-- the text is one line: its last byte is LF, and no other byte is
abbrev pub is_line : List ℕ → Bool
is_line [] = false
is_line (c ∷ cs) = if c == 10 then is_nothing cs else is_line cs

-- what the text has from the first such byte on, and nothing where it has none
abbrev pub from_byte : ℕ → List ℕ → List ℕ
from_byte stop text = drop (position_or_len (λ c. c == stop) text) text

-- what a text has after its first LF, and nothing if it has no LF
abbrev pub after_line : List ℕ → List ℕ
after_line text = drop 1 (from_byte 10 text)

-- what a text has after n LFs
abbrev pub after_lines : ℕ → List ℕ → List ℕ
after_lines zero text = text
after_lines (suc count) text = after_lines count (after_line text)
