-- Texts with named holes, and how they are filled. A hole is a name between two marks, as `$Type$` in `pub enum $Type$ {`.
--     filled template holes texts         the template, with these texts in its holes of these names
use Rattle.std.specs.Prelude.{ℕ, ◌==◌, Bool, true, ◌&&◌, List, [], ◌∷◌, ◌++◌, if◌then◌else◌, bytes_eq}
use Rattle.std.specs.List.{slice_split, list_any}

abbrev pub is_mark : ℕ → Bool
is_mark byte = byte == 36

-- the text of the hole of this name, and no text if there is no such hole
abbrev pub text_named : List (List ℕ) → List (List ℕ) → List ℕ → List ℕ
text_named [] texts name = []
text_named (hole ∷ holes) [] name = []
text_named (hole ∷ holes) (text ∷ texts) name = if bytes_eq hole name then text else text_named holes texts name

-- parts that are fixed and names of holes, by turns; each name stands for its text
abbrev pub by_turns : List (List ℕ) → List (List ℕ) → List (List ℕ) → List ℕ
by_turns holes texts [] = []
by_turns holes texts (part ∷ []) = part
by_turns holes texts (part ∷ name ∷ parts) = part ++ (text_named holes texts name ++ by_turns holes texts parts)

unfoldable pub filled : List ℕ → List (List ℕ) → List (List ℕ) → List ℕ
filled template holes texts = by_turns holes texts (slice_split is_mark template)

-- each hole of the parts has one of these names
abbrev pub has_names : List (List ℕ) → List (List ℕ) → Bool
has_names holes [] = true
has_names holes (part ∷ []) = true
has_names holes (part ∷ name ∷ parts) = list_any (bytes_eq name) holes && has_names holes parts

abbrev pub fits : List ℕ → List (List ℕ) → Bool
fits template holes = has_names holes (slice_split is_mark template)
