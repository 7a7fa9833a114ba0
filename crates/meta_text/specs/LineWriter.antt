-- The parts of a writer of lines, and the texts that it writes.
--     sink_of w, level_of w      the sink, and the level of the next line
--     line_text, block_text, end_text, arm_text      the text of a line, of the head of a block, of its end, and of an arm
use Rattle.std.specs.Prelude.{ℕ, ◌-◌, ◌==◌, List, [], ◌∷◌, ◌++◌, length, take, codes}
use Rattle.std.specs.List.{suffix_len, flat_map}
use Rattle.std.specs.Borrow.{GName}
use Rattle.meta_text.specs.Lines.{at, text_of}
use Rattle.meta_text.specs.declared.line_writer.LineWriter.{LineWriter}

-- the sink that the lines go to
abbrev pub sink_of : {K : Type 0} → LineWriter K → K
sink_of writer = writer.sink.now

-- which loan of a sink the writer holds
abbrev pub sink_name : {K : Type 0} → LineWriter K → GName
sink_name writer = writer.sink.ghost_name

-- the level of the next line
abbrev pub level_of : {K : Type 0} → LineWriter K → ℕ
level_of writer = writer.level

-- the bytes without the blanks at their end
abbrev pub without_blanks : List ℕ → List ℕ
without_blanks bytes = take (length bytes - suffix_len (λ byte. byte == 32) bytes) bytes

-- a comma and a space, and then the field
abbrev pub after_comma : List ℕ → List ℕ
after_comma field = codes ", " ++ field

-- what stands between the name of an arm and its body: ` { F, G } => `, or ` => ` if there are no fields
abbrev pub arm_mark : List (List ℕ) → List ℕ
arm_mark [] = codes " => "
arm_mark (field ∷ fields) = codes " { " ++ (field ++ (flat_map after_comma fields ++ codes " } => "))

-- the line of this text
abbrev pub line_text : ℕ → List ℕ → List ℕ
line_text level text = text_of (at level (text ∷ []) ∷ [])

-- the head of a block: `HEAD {`, without the blanks at the end of the head
abbrev pub block_text : ℕ → List ℕ → List ℕ
block_text level head = text_of (at level (without_blanks head ∷ codes " {" ∷ []) ∷ [])

-- the end of a block at this level: `}`
abbrev pub end_text : ℕ → List ℕ
end_text level = text_of (at level (codes "}" ∷ []) ∷ [])

-- an arm of a match: `NAME { F, G } => BODY,`, or `NAME => BODY,` if there are no fields
abbrev pub arm_text : ℕ → List ℕ → List (List ℕ) → List ℕ → List ℕ
arm_text level name fields body = text_of (at level (name ∷ arm_mark fields ∷ body ∷ codes "," ∷ []) ∷ [])
