-- Lines of a text, each at a level.
--     text_of lines         the bytes of the lines, in order
use Rattle.std.specs.Prelude.{ℕ, zero, suc, List, [], ◌∷◌, ◌++◌}

-- a line: how many levels it stands in, four spaces each, and the parts that stand on it one after the other
pub record Line : Type 0 where
  pub level : ℕ
  pub parts : List (List ℕ)

-- the line of these parts at this level
abbrev pub at : ℕ → List (List ℕ) → Line
at level parts = record { level = level; parts = parts }

-- the empty line, which has no spaces
abbrev pub empty_line : Line
empty_line = record { level = 0; parts = [] }

-- four spaces a level, and then the rest
abbrev pub indented : ℕ → List ℕ → List ℕ
indented zero rest = rest
indented (suc level) rest = 32 ∷ 32 ∷ 32 ∷ 32 ∷ indented level rest

-- the parts, LF, and then the rest
abbrev pub parts_onto : List (List ℕ) → List ℕ → List ℕ
parts_onto [] rest = 10 ∷ rest
parts_onto (part ∷ parts) rest = part ++ parts_onto parts rest

-- the bytes of the lines, and then the rest
abbrev pub lines_onto : List Line → List ℕ → List ℕ
lines_onto [] rest = rest
lines_onto (line ∷ lines) rest = indented line.level (parts_onto line.parts (lines_onto lines rest))

-- the bytes of the lines, each with its spaces and LF
abbrev pub text_of : List Line → List ℕ
text_of lines = lines_onto lines []
