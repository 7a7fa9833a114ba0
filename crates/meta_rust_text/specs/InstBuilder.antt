-- The method that builds an instruction.
--     inst_builder_text vars c format     its text
use Rattle.std.specs.Prelude.{ℕ, List, [], ◌∷◌, ◌++◌, length, codes}
use Rattle.meta_text.specs.Lines.{at, lines_onto, text_of}
use Rattle.meta_typevar.specs.declared.content.TypeVarContent.{TypeVarContent}
use Rattle.meta_operands.specs.declared.format.InstructionFormat.{InstructionFormat}
use Rattle.meta_inst.specs.Built.{BuiltInstruction}
use Rattle.meta_inst.specs.Content.{snake_name_of}
use Rattle.meta_rust_text.specs.MethodArguments.{type_parameters, arguments_text}
use Rattle.meta_rust_text.specs.MethodDocs.{method_docs}
use Rattle.meta_rust_text.specs.MethodBody.{result_type, body_text}

-- a method of this name with these type parameters, these arguments, this type of its answer and this body
unfoldable pub method_with : List ℕ → List ℕ → List ℕ → List ℕ → List ℕ → List ℕ
method_with name parameters arguments result body =
    lines_onto (
    at 1 (codes "#[allow(non_snake_case, reason = \"generated code\")]" ∷ [])
    ∷ at 1 (codes "fn " ∷ name ∷ parameters ∷ codes "(" ∷ arguments ∷ codes ") -> " ∷ result ∷ codes " {" ∷ []) ∷ [])
    (body ++ text_of (at 1 (codes "}" ∷ []) ∷ []))

-- the method that builds an instruction of this format, after its documentation
unfoldable pub inst_builder_text : List TypeVarContent → BuiltInstruction → InstructionFormat → List ℕ
inst_builder_text vars c format =
    method_docs vars c
    ++ method_with (snake_name_of c.name) (type_parameters c.operands_in) (arguments_text vars c format)
    (result_type (length c.value_results)) (body_text vars c format)
