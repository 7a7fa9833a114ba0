-- The text of the formats in use: the enum `InstructionFormat`, and how the data of an instruction gives its format.
--     entry_text f           a format in the enum
--     told_arm f             the arm that gives it
--     formats_text b         the text
use Rattle.std.specs.Prelude.{ℕ, List, [], ◌∷◌, ◌++◌, codes}
use Rattle.std.specs.List.{flat_map}
use Rattle.meta_text.specs.Lines.{at, empty_line, lines_onto, text_of}
use Rattle.meta_operands.specs.FormatText.{format_text}
use Rattle.meta_operands.specs.declared.format.InstructionFormat.{InstructionFormat}
use Rattle.meta_build.specs.BuiltDeclarations.{BuiltDeclarations}
use Rattle.meta_rust_insts.specs.InUse.{formats_in}

-- a format in the enum by its name; its documentation shows all of it
unfoldable pub entry_text : InstructionFormat → List ℕ
entry_text f = text_of (at 1 (codes "/// " ∷ format_text f ∷ []) ∷ at 1 (f.name ∷ codes "," ∷ []) ∷ [])

-- the arm that gives the format
unfoldable pub told_arm : InstructionFormat → List ℕ
told_arm f = text_of (at 3 (codes "InstructionData::" ∷ f.name ∷ codes " { .. } => Self::" ∷ f.name ∷ codes "," ∷ []) ∷ [])

-- the text of the formats in use, by their names. It ends with an empty line.
unfoldable pub formats_text : BuiltDeclarations → List ℕ
formats_text b =
    lines_onto (
    at 0 (codes "/// An instruction format" ∷ [])
    ∷ at 0 (codes "#[derive(Copy, Clone, PartialEq, Eq, Debug)]" ∷ [])
    ∷ at 0 (codes "pub enum InstructionFormat {" ∷ []) ∷ [])
    (flat_map entry_text (formats_in b) ++ lines_onto (
    at 0 (codes "}" ∷ [])
    ∷ empty_line
    ∷ at 0 (codes "impl<'a> From<&'a InstructionData> for InstructionFormat {" ∷ [])
    ∷ at 1 (codes "fn from(inst: &'a InstructionData) -> Self {" ∷ [])
    ∷ at 2 (codes "match *inst {" ∷ []) ∷ [])
    (flat_map told_arm (formats_in b) ++ text_of (
    at 2 (codes "}" ∷ [])
    ∷ at 1 (codes "}" ∷ [])
    ∷ at 0 (codes "}" ∷ [])
    ∷ empty_line ∷ [])))
