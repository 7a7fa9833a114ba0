-- The methods of `InstructionData` that read an instruction.
--     opcode_arm name, typevar_arm name designated values      the arms that give the opcode, and the value whose type may control
--     values_arm name values mark one list                    the arm that gives the values
use Rattle.std.specs.Prelude.{ℕ, List, [], ◌∷◌, Option, None, Some, codes}
use Rattle.std.specs.Fmt.{decimal}
use Rattle.meta_text.specs.Lines.{at, text_of}
use Rattle.meta_rust_insts.specs.declared.held.Values.{Values}
use Rattle.meta_rust_insts.specs.declared.held.Values.TheVariants as values

-- ---- the opcode

unfoldable pub opcode_arm : List ℕ → List ℕ
opcode_arm name = text_of (at 3 (codes "Self::" ∷ name ∷ codes " { opcode, .. } => opcode," ∷ []) ∷ [])

-- ---- the operand whose type may control

-- if an operand is designated, it is the value at its place: in a list, alone, or in an array
abbrev pub typevar_arm : List ℕ → Option ℕ → Values → List ℕ
typevar_arm name None held = text_of (at 3 (codes "Self::" ∷ name ∷ codes " { .. } => None," ∷ []) ∷ [])
typevar_arm name (Some place) values.Absent = text_of (at 3 (codes "Self::" ∷ name ∷ codes " { .. } => None," ∷ []) ∷ [])
typevar_arm name (Some place) values.One = text_of (at 3 (codes "Self::" ∷ name ∷ codes " { arg, .. } => Some(arg)," ∷ []) ∷ [])
typevar_arm name (Some place) (values.Several count) = text_of (
    at 3 (
    codes "Self::"
    ∷ name
    ∷ codes " { args: ref args_arity"
    ∷ decimal count ∷ codes ", .. } => Some(args_arity" ∷ decimal count ∷ codes "[" ∷ decimal place ∷ codes "])," ∷ []
    )
    ∷ []
    )
typevar_arm name (Some place) values.Listed = text_of (
    at 3 (codes "Self::" ∷ name ∷ codes " { ref args, .. } => args.get(" ∷ decimal place ∷ codes ", pool)," ∷ []) ∷ []
    )

-- ---- the values

-- the slice of the values, with this mark of a reference after `&` or `ref `; this function makes a slice of one value, and this method one of
-- a list
abbrev pub values_arm : List ℕ → Values → List ℕ → List ℕ → List ℕ → List ℕ
values_arm name values.Absent mark one list = text_of (at 3 (codes "Self::" ∷ name ∷ codes " { .. } => &" ∷ mark ∷ codes "[]," ∷ []) ∷ [])
values_arm name values.One mark one list = text_of (
    at 3 (codes "Self::" ∷ name ∷ codes " { ref " ∷ mark ∷ codes "arg, .. } => " ∷ one ∷ codes "(arg)," ∷ []) ∷ []
    )
values_arm name (values.Several count) mark one list = text_of (
    at 3 (
    codes "Self::"
    ∷ name
    ∷ codes " { args: ref "
    ∷ mark ∷ codes "args_arity" ∷ decimal count ∷ codes ", .. } => args_arity" ∷ decimal count ∷ codes "," ∷ []
    )
    ∷ []
    )
values_arm name values.Listed mark one list = text_of (
    at 3 (codes "Self::" ∷ name ∷ codes " { ref " ∷ mark ∷ codes "args, .. } => args." ∷ list ∷ codes "(pool)," ∷ []) ∷ []
    )
