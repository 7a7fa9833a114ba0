-- The methods of the builder that take the last value input of an instruction as an immediate.
--     imm_method_text m method           the lines of one of the three methods
--     imm_builders_text vars c           the lines of all three methods of an instruction
use Rattle.std.specs.Prelude.{ℕ, ◌-◌, ◌==◌, ◌||◌, Bool, true, false, List, [], ◌∷◌, ◌++◌, length, slice_get, Option, None, Some, is_some}
use Rattle.std.specs.Prelude.{codes, if◌then◌else◌}
use Rattle.std.specs.List.{flat_map, enumerate_from}
use Rattle.meta_typevar.specs.declared.content.TypeVarContent.{TypeVarContent}
use Rattle.meta_operands.specs.Texts.{same_text}
use Rattle.meta_operands.specs.Operand.{variable_of, doc_of}
use Rattle.meta_operands.specs.declared.operand.Operand.{Operand}
use Rattle.meta_inst.specs.Built.{BuiltInstruction}
use Rattle.meta_inst.specs.Content.{names_text, snake_name_of}
use Rattle.meta_text.specs.Lines.{at, lines_onto, text_of}
use Rattle.meta_text.specs.Ends.{gap_text}
use Rattle.meta_rust_text.specs.Names.{operand_name}
use Rattle.meta_rust_text.specs.Docs.{first_line, doc_item_text}
use Rattle.meta_rust_text.specs.Arguments.{argument_text}
use Rattle.meta_rust_text.specs.declared.imm_builders.Method.{Method}
use Rattle.meta_rust_text.specs.declared.imm_builders.Method.TheVariants.{SignExtends, ZeroExtends, Deprecated}

-- ---- the inputs of the methods

-- what is said of an input: of the immediate, that it is one; of any other input, its documentation
abbrev pub input_doc : List TypeVarContent → Operand → Bool → List ℕ
input_doc vars o is_immediate = if is_immediate then codes "an immediate integer constant" else first_line (doc_of vars o)

-- the type of the argument for an input: for the immediate, the type parameter of the method; for a value, `Value`; for any other input,
-- its Rust type
abbrev pub input_type : Operand → Bool → List ℕ
input_type o is_immediate = if is_immediate then codes "T" else (if is_some (variable_of o) then codes "Value" else o.kind.rust_type)

-- the lines on the inputs, of which the one at this place is the immediate
unfoldable pub input_docs : List TypeVarContent → List Operand → ℕ → List ℕ
input_docs vars inputs immediate =
    flat_map (λ (input : ℕ × Operand). doc_item_text input.1.name (input_doc vars input.1 (input.0 == immediate)))
    (enumerate_from 0 inputs)

-- the arguments for the inputs, each after a comma and a space
unfoldable pub input_arguments : List Operand → ℕ → List ℕ
input_arguments inputs immediate =
    flat_map (λ (input : ℕ × Operand). argument_text input.1.name (input_type input.1 (input.0 == immediate)))
    (enumerate_from 0 inputs)

-- the names of the inputs, separated by a comma and a space
unfoldable pub input_names : List Operand → List ℕ
input_names inputs = names_text inputs

-- ---- one method

-- what the three methods of an instruction have in common: its name in code; whether the deprecated method extends the sign; the name
-- of the first value input, which gives the type; that of the last one, which is taken as an immediate; the lines on the inputs; the
-- arguments for them; and their names
pub record ImmMethods : Type 0 where
  pub name : List ℕ
  pub signed : Bool
  pub control : List ℕ
  pub immediate : List ℕ
  pub docs : List ℕ
  pub arguments : List ℕ
  pub inputs : List ℕ

-- what comes after the name of the instruction in the name of the method
abbrev pub suffix_of : Method → List ℕ
suffix_of SignExtends = codes "_imm_s"
suffix_of ZeroExtends = codes "_imm_u"
suffix_of Deprecated = codes "_imm"

-- whether the method extends the immediate by its sign, and not by zeros; the last argument says it for the deprecated method
abbrev pub extends_sign : Method → Bool → Bool
extends_sign SignExtends signed = true
extends_sign ZeroExtends signed = false
extends_sign Deprecated signed = signed

-- how the immediate is extended, in words
abbrev pub extension_of : Bool → List ℕ
extension_of extends = if extends then codes "sign-extended" else codes "zero-extended"

-- whether the sign is extended, as a word of Rust
abbrev pub truth_of : Bool → List ℕ
truth_of extends = if extends then codes "true" else codes "false"

-- the mark of the deprecated method, which the other two replace
unfoldable pub mark_text : List ℕ → Method → List ℕ
mark_text name SignExtends = []
mark_text name ZeroExtends = []
mark_text name Deprecated = text_of (
    at 1 (
    codes "#[deprecated(note = \"use `"
    ∷ name
    ∷ codes "_imm_s` (sign-extends the immediate) or `" ∷ name ∷ codes "_imm_u` (zero-extends the immediate) instead\")]" ∷ []
    )
    ∷ [])

-- A method with this mark, whose name ends in this suffix. It makes of the immediate a number, and of that a value of the type of the
-- first value input, by an extension of its sign or not; then it makes the instruction with all inputs.
unfoldable pub extending_text : ImmMethods → List ℕ → List ℕ → List ℕ → List ℕ → List ℕ
extending_text m mark suffix extension signed =
    lines_onto (
    at 1 (
    codes "/// Convenience method that is like [`"
    ∷ m.name
    ∷ codes "`][Self::"
    ∷ m.name
    ∷ codes "], but takes its trailing operand as an immediate integer constant which is materialized with an `iconst` and "
    ∷ extension ∷ codes " to the controlling type." ∷ []
    )
    ∷ at 1 (codes "///" ∷ [])
    ∷ at 1 (codes "/// Inputs:" ∷ [])
    ∷ at 1 (codes "///" ∷ []) ∷ [])
    (m.docs ++ (mark ++ text_of (
    at 1 (codes "#[allow(non_snake_case, reason = \"generated code\")]" ∷ [])
    ∷ at 1 (codes "fn " ∷ m.name ∷ suffix ∷ codes "<T: Into<ir::immediates::Imm64>>(mut self" ∷ m.arguments ∷ codes ") -> Value {" ∷ [])
    ∷ at 2 (codes "let " ∷ m.immediate ∷ codes " = " ∷ m.immediate ∷ codes ".into();" ∷ [])
    ∷ at 2 (codes "let imm_ty = self.data_flow_graph().value_type(" ∷ m.control ∷ codes ");" ∷ [])
    ∷ at 2 (codes "let " ∷ m.immediate ∷ codes " = self.build_imm_const(imm_ty, " ∷ m.immediate ∷ codes ", " ∷ signed ∷ codes ");" ∷ [])
    ∷ at 2 (codes "self." ∷ m.name ∷ codes "(" ∷ m.inputs ∷ codes ")" ∷ [])
    ∷ at 1 (codes "}" ∷ []) ∷ [])))

-- the lines of a method
unfoldable pub imm_method_text : ImmMethods → Method → List ℕ
imm_method_text m method =
    extending_text m (mark_text m.name method) (suffix_of method) (extension_of (extends_sign method m.signed))
    (truth_of (extends_sign method m.signed))

-- the three methods of an instruction
unfoldable pub three_methods_text : ImmMethods → List ℕ
three_methods_text m =
    imm_method_text m SignExtends
    ++ (gap_text
    ++ (imm_method_text m ZeroExtends
    ++ (gap_text
    ++ imm_method_text m Deprecated)))

-- ---- the methods of an instruction

-- whether an instruction of this name once had a form with an immediate that extended its sign, as the deprecated method still does
abbrev pub was_signed : List ℕ → Bool
was_signed name =
    same_text name (codes "iadd")
    || (same_text name (codes "imul")
    || (same_text name (codes "sdiv")
    || (same_text name (codes "srem")
    || same_text name (codes "icmp"))))

-- what the methods of an instruction have in common, from the places of its first and last value inputs
abbrev pub methods_of : List TypeVarContent → BuiltInstruction → ℕ → ℕ → ImmMethods
methods_of vars c first last = record {
  name = snake_name_of c.name;
  signed = was_signed c.name;
  control = operand_name c.operands_in first;
  immediate = operand_name c.operands_in last;
  docs = input_docs vars c.operands_in last;
  arguments = input_arguments c.operands_in last;
  inputs = input_names c.operands_in;
}

-- its methods, if there are a first and a last value input
abbrev pub methods_between : List TypeVarContent → BuiltInstruction → Option ℕ → Option ℕ → List ℕ
methods_between vars c None last = []
methods_between vars c (Some first) None = []
methods_between vars c (Some first) (Some last) = three_methods_text (methods_of vars c first last)

-- The three methods of an instruction that take its last value input as an immediate: one extends its sign, one extends it by zeros, and
-- one, which is deprecated, does what an older form of the instruction did. They are for instructions with one value result, at least two
-- value inputs and no value list. Declarations that ask for them for another instruction are refused as `BadImmMethod`, so a built
-- instruction that asks for them has this shape. Whether the instruction asks for them doesn't matter here. For an instruction without
-- value inputs there is no text.
unfoldable pub imm_builders_text : List TypeVarContent → BuiltInstruction → List ℕ
imm_builders_text vars c = methods_between vars c (slice_get c.value_opnums 0) (slice_get c.value_opnums (length c.value_opnums - 1))
