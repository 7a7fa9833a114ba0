-- The documentation of the method that builds an instruction.
--     method_docs vars c      the documentation of the instruction, and then its inputs and outputs
use Rattle.std.specs.Prelude.{ℕ, ◌==◌, List, [], ◌∷◌, ◌++◌, length, slice_get, Option, None, Some, if◌then◌else◌, codes}
use Rattle.std.specs.List.{flat_map}
use Rattle.meta_text.specs.Lines.{at, text_of}
use Rattle.meta_typevar.specs.declared.content.TypeVarContent.{TypeVarContent}
use Rattle.meta_operands.specs.Operand.{doc_at}
use Rattle.meta_operands.specs.declared.operand.Operand.{Operand}
use Rattle.meta_inst.specs.Built.{BuiltInstruction}
use Rattle.meta_inst.specs.FormatMatch.{is_block_operand, is_raw_block_operand}
use Rattle.meta_rust_text.specs.Docs.{first_line, doc_line_text, doc_heading_text, doc_item_text}
use Rattle.meta_rust_text.specs.Operands.{variable_name, operand_doc}
use Rattle.meta_rust_text.specs.MethodArguments.{asked_control}

-- the line on the control
unfoldable pub control_line : List ℕ → List ℕ → List ℕ
control_line name doc = text_of (at 1 (codes "/// - " ∷ name ∷ codes " (controlling type variable): " ∷ doc ∷ []) ∷ [])

-- the line on the control, if it is an argument
unfoldable pub control_doc : List TypeVarContent → Option ℕ → List ℕ
control_doc vars None = []
control_doc vars (Some tv) = control_line (variable_name vars tv) (first_line (doc_at (slice_get vars tv)))

-- the lines on a block of this name and on what is passed to it
unfoldable pub block_docs : List ℕ → List ℕ
block_docs name = text_of (
    at 1 (codes "/// - " ∷ name ∷ codes "_label: Destination basic block" ∷ [])
    ∷ at 1 (codes "/// - " ∷ name ∷ codes "_args: Block arguments" ∷ []) ∷ [])

-- the line on a block without arguments
unfoldable pub raw_block_doc : List ℕ
raw_block_doc = text_of (at 1 (codes "/// - block: raw basic block" ∷ []) ∷ [])

-- the line on an output, or on an input that is no block
abbrev pub operand_line : List TypeVarContent → Operand → List ℕ
operand_line vars o = doc_item_text o.name (operand_doc vars o)

-- the lines on the arguments for an input
unfoldable pub docs_of_input : List TypeVarContent → Operand → List ℕ
docs_of_input vars o =
    if is_block_operand o then block_docs o.name
    else (if is_raw_block_operand o then raw_block_doc else operand_line vars o)

-- the lines on all arguments but the builder
unfoldable pub inputs_docs : List TypeVarContent → BuiltInstruction → List ℕ
inputs_docs vars c = control_doc vars (asked_control c.polymorphic_info) ++ flat_map (docs_of_input vars) c.operands_in

-- the lines on the outputs
unfoldable pub outputs_docs : List TypeVarContent → List Operand → List ℕ
outputs_docs vars outputs = flat_map (operand_line vars) outputs

-- a list of this title with these lines, if there are lines
unfoldable pub titled : List ℕ → List ℕ → List ℕ
titled title lines = if length lines == 0 then [] else (doc_heading_text title ++ lines)

-- the documentation of the instruction, of the arguments and of the outputs
unfoldable pub method_docs : List TypeVarContent → BuiltInstruction → List ℕ
method_docs vars c =
    doc_line_text (first_line c.doc)
    ++ (titled (codes "Inputs") (inputs_docs vars c) ++ titled (codes "Outputs") (outputs_docs vars c.operands_out))
