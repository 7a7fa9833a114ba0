-- The doc comments of the builder's methods, which stand one level in.
--     first_line doc                what is printed of a documentation
--     doc_line_text doc             a doc comment of one line
--     doc_heading_text heading      the heading of the inputs or of the outputs
--     doc_item_text name doc        the line on an input or an output
use Rattle.std.specs.Prelude.{ℕ, ◌==◌, Bool, not, List, [], ◌∷◌, length, map, codes, unwrap_or}
use Rattle.std.specs.List.{find}
use Rattle.std.specs.Str.{trim}
use Rattle.std.specs.Str.Lines.{lines}
use Rattle.meta_text.specs.Lines.{at, text_of}

-- the line isn't empty
abbrev pub has_text : List ℕ → Bool
has_text line = not (length line == 0)

-- the first line of a documentation that isn't blank, without the white space at its ends, and no text if each line is blank
unfoldable pub first_line : List ℕ → List ℕ
first_line doc = unwrap_or (find has_text (map trim (lines doc))) []

-- a doc comment of one line: the space after the slashes is there even if the line is empty
unfoldable pub doc_line_text : List ℕ → List ℕ
doc_line_text doc = text_of (at 1 (codes "/// " ∷ doc ∷ []) ∷ [])

-- a heading in a doc comment, as `Inputs:`, between two empty lines of the comment
unfoldable pub doc_heading_text : List ℕ → List ℕ
doc_heading_text heading = text_of (
    at 1 (codes "///" ∷ [])
    ∷ at 1 (codes "/// " ∷ heading ∷ codes ":" ∷ [])
    ∷ at 1 (codes "///" ∷ []) ∷ [])

-- the line on an input or an output of this name: `/// - x: A scalar`. The space after the colon is there even if the doc is empty
unfoldable pub doc_item_text : List ℕ → List ℕ → List ℕ
doc_item_text name doc = text_of (at 1 (codes "/// - " ∷ name ∷ codes ": " ∷ doc ∷ []) ∷ [])
