-- Kinds of operands.
use Rattle.std.specs.Prelude.{ℕ, Bool, true, false, List, Option, None, Some, codes}
use Rattle.meta_operands.specs.Texts.{same_text}
use Rattle.meta_operands.specs.EnumEntries.{EnumEntries}
use Rattle.meta_operands.specs.declared.kind.OperandKindFields.{OperandKindFields}
use Rattle.meta_operands.specs.declared.kind.OperandKindFields.TheVariants.{EntityRef, VariableArgs, ImmValue, ImmEnum, TypeVar}
use Rattle.meta_operands.specs.declared.kind.OperandKind.{OperandKind}

-- the values of an enum immediate
abbrev pub enum_values_in : OperandKindFields → Option EnumEntries
enum_values_in EntityRef = None
enum_values_in VariableArgs = None
enum_values_in ImmValue = None
enum_values_in (ImmEnum values) = Some values
enum_values_in (TypeVar tv) = None

-- the type variable, where operands of the kind are values
abbrev pub variable_in : OperandKindFields → Option ℕ
variable_in EntityRef = None
variable_in VariableArgs = None
variable_in ImmValue = None
variable_in (ImmEnum values) = None
variable_in (TypeVar tv) = Some tv

-- whether operands of the kind are a variable number of arguments
abbrev pub holds_varargs : OperandKindFields → Bool
holds_varargs EntityRef = false
holds_varargs VariableArgs = true
holds_varargs ImmValue = false
holds_varargs (ImmEnum values) = false
holds_varargs (TypeVar tv) = false

-- whether they are immediates: values or enums that the instruction itself holds
abbrev pub holds_immediate : OperandKindFields → Bool
holds_immediate EntityRef = false
holds_immediate VariableArgs = false
holds_immediate ImmValue = true
holds_immediate (ImmEnum values) = true
holds_immediate (TypeVar tv) = false

-- whether they are immediates or references to entities of the function, as blocks are
abbrev pub holds_immediate_or_entityref : OperandKindFields → Bool
holds_immediate_or_entityref EntityRef = true
holds_immediate_or_entityref VariableArgs = false
holds_immediate_or_entityref ImmValue = true
holds_immediate_or_entityref (ImmEnum values) = true
holds_immediate_or_entityref (TypeVar tv) = false

-- whether operands of the kind are blocks that are branched to with arguments
abbrev pub is_block_kind : OperandKind → Bool
is_block_kind kind = same_text kind.rust_type (codes "ir::BlockCall")

-- whether they are blocks without arguments
abbrev pub is_raw_block_kind : OperandKind → Bool
is_raw_block_kind kind = same_text kind.rust_type (codes "ir::Block")

-- the documentation of the kind, if it has one
abbrev pub doc_of_kind : OperandKind → Option (List ℕ)
doc_of_kind kind = kind.doc
