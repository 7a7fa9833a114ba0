-- The lines of arms that make an instruction of the same format again.
use Rattle.std.specs.Prelude.{ℕ, List, [], ◌∷◌, ◌++◌, codes}
use Rattle.meta_text.specs.Lines.{at, lines_onto, text_of}

-- the arm of this name, with this pattern and these lines of its members: the opcode stays
abbrev pub rebuilt_arm : List ℕ → List ℕ → List ℕ → List ℕ
rebuilt_arm name pattern members =
    lines_onto (
    at 3 (codes "Self::" ∷ name ∷ codes "{" ∷ pattern ∷ codes "} => {" ∷ [])
    ∷ at 4 (codes "Self::" ∷ name ∷ codes " {" ∷ [])
    ∷ at 5 (codes "opcode," ∷ []) ∷ [])
    (members ++ text_of (at 4 (codes "}" ∷ []) ∷ at 3 (codes "}" ∷ []) ∷ []))

-- a member stays as it is
unfoldable pub kept : List ℕ → List ℕ
kept member = text_of (at 5 (member ∷ codes "," ∷ []) ∷ [])
