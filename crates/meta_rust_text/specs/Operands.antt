-- What the text of a method says of operands and variables.
use Rattle.std.specs.Prelude.{ℕ, Bool, not, ◌&&◌, List, [], slice_get, Option, None, Some, codes}
use Rattle.meta_typevar.specs.declared.content.TypeVarContent.{TypeVarContent}
use Rattle.meta_operands.specs.Texts.{same_text}
use Rattle.meta_operands.specs.Operand.{is_immediate_operand, doc_of}
use Rattle.meta_operands.specs.declared.operand.Operand.{Operand}
use Rattle.meta_inst.specs.FormatMatch.{is_block_operand, is_raw_block_operand}
use Rattle.meta_rust_text.specs.Docs.{first_line}

-- ---- operands

-- whether the argument for the operand is converted to the operand's type: it is an immediate, and no block
abbrev pub is_converted : Operand → Bool
is_converted o = not (is_block_operand o) && (not (is_raw_block_operand o) && is_immediate_operand o)

-- whether the operand is flags of a memory access, which are stored outside of the instruction
abbrev pub is_mem_flags : Operand → Bool
is_mem_flags o = same_text o.kind.rust_type (codes "ir::MemFlags")

-- ---- variables

-- the name of the variable at a place of the registry
abbrev pub variable_name_of : Option TypeVarContent → List ℕ
variable_name_of None = []
variable_name_of (Some content) = content.name

-- the name of a variable, and no text if it isn't of the registry
abbrev pub variable_name : List TypeVarContent → ℕ → List ℕ
variable_name vars tv = variable_name_of (slice_get vars tv)

-- ---- documentation

-- the documentation of an operand as it is printed
unfoldable pub operand_doc : List TypeVarContent → Operand → List ℕ
operand_doc vars o = first_line (doc_of vars o)
