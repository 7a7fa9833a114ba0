-- Rows of the tables of kinds, and what is made of them.
--     IsKindOfRow row kind       the kind is what the row says
--     key_of_kind, key_of_row    what the operands are, but for the values of an enum, the field name and the Rust type
--     kinds_of_entities e, kinds_of_immediates i      the kinds in the order of their tables
use Rattle.std.specs.Prelude.{◌≡◌, ℕ, List, [], ◌∷◌, ◌++◌, Some, codes}
use Rattle.meta_operands.specs.Kind.{doc_of_kind}
use Rattle.meta_operands.specs.declared.kind.OperandKind.{OperandKind}
use Rattle.meta_operands.specs.declared.kind.OperandKindFields.{OperandKindFields}
use Rattle.meta_operands.specs.declared.kind.OperandKindFields.TheVariants.{EntityRef, VariableArgs, ImmValue, ImmEnum, TypeVar}
use Rattle.meta_shared.specs.Kinds.{pairs_as_values}
use Rattle.meta_shared.specs.declared.entities.EntityRefs.{EntityRefs}
use Rattle.meta_shared.specs.declared.immediates.Immediates.{Immediates}
use Rattle.meta_shared.specs.declared.kind_rows.Class.{Class}
use Rattle.meta_shared.specs.declared.kind_rows.Class.TheVariants.{Entity, Varargs, Number, Choice}
use Rattle.meta_shared.specs.declared.kind_rows.KindRow.{KindRow}

-- what the operands of a class are
abbrev pub fields_of : Class → OperandKindFields
fields_of Entity = EntityRef
fields_of Varargs = VariableArgs
fields_of Number = ImmValue
fields_of (Choice pairs) = ImmEnum (pairs_as_values pairs.now)

-- the kind is what the row says
pub record IsKindOfRow (row : KindRow) (kind : OperandKind) : Type 0 where
  pub field_name_is : kind.rust_field_name ≡ row.field_name.now
  pub rust_type_is : kind.rust_type ≡ row.rust_type.now
  pub fields_are : kind.fields ≡ fields_of row.class
  pub doc_is : doc_of_kind kind ≡ Some row.doc.now

-- the same but for the values of an enum
abbrev pub without_values : OperandKindFields → OperandKindFields
without_values EntityRef = EntityRef
without_values VariableArgs = VariableArgs
without_values ImmValue = ImmValue
without_values (ImmEnum values) = ImmEnum []
without_values (TypeVar v) = TypeVar v

pub record KindKey : Type 0 where
  pub fields : OperandKindFields
  pub field_name : List ℕ
  pub rust_type : List ℕ

abbrev pub key : OperandKindFields → List ℕ → List ℕ → KindKey
key fields field_name rust_type = record { fields = fields; field_name = field_name; rust_type = rust_type }

abbrev pub key_of_kind : OperandKind → KindKey
key_of_kind kind = key (without_values kind.fields) kind.rust_field_name kind.rust_type

abbrev pub key_of_row : KindRow → KindKey
key_of_row row = key (without_values (fields_of row.class)) row.field_name.now row.rust_type.now

-- the kinds of the tables
abbrev pub entity_keys : List KindKey
entity_keys =
    key EntityRef (codes "destination") (codes "ir::BlockCall") ∷
    key EntityRef (codes "block_then") (codes "ir::BlockCall") ∷
    key EntityRef (codes "block_else") (codes "ir::BlockCall") ∷
    key EntityRef (codes "raw_block") (codes "ir::Block") ∷
    key EntityRef (codes "stack_slot") (codes "ir::StackSlot") ∷
    key EntityRef (codes "dynamic_stack_slot") (codes "ir::DynamicStackSlot") ∷
    key EntityRef (codes "global_value") (codes "ir::GlobalValue") ∷
    key EntityRef (codes "sig_ref") (codes "ir::SigRef") ∷
    key EntityRef (codes "func_ref") (codes "ir::FuncRef") ∷
    key EntityRef (codes "table") (codes "ir::JumpTable") ∷
    key EntityRef (codes "exception") (codes "ir::ExceptionTable") ∷
    key VariableArgs [] (codes "&[Value]") ∷
    key EntityRef (codes "constant_handle") (codes "ir::Constant") ∷
    key EntityRef (codes "imm") (codes "ir::Immediate") ∷
    []

abbrev pub immediate_keys : List KindKey
immediate_keys =
    key ImmValue (codes "imm") (codes "ir::immediates::Imm64") ∷
    key ImmValue (codes "imm") (codes "ir::immediates::Uimm8") ∷
    key ImmValue (codes "offset") (codes "ir::immediates::Offset32") ∷
    key ImmValue (codes "imm") (codes "ir::immediates::Ieee16") ∷
    key ImmValue (codes "imm") (codes "ir::immediates::Ieee32") ∷
    key ImmValue (codes "imm") (codes "ir::immediates::Ieee64") ∷
    key (ImmEnum []) (codes "cond") (codes "ir::condcodes::IntCC") ∷
    key (ImmEnum []) (codes "cond") (codes "ir::condcodes::FloatCC") ∷
    key ImmValue (codes "flags") (codes "ir::MemFlags") ∷
    key (ImmEnum []) (codes "code") (codes "ir::TrapCode") ∷
    key (ImmEnum []) (codes "op") (codes "ir::AtomicRmwOp") ∷
    []

-- the kinds in the order of the tables
abbrev pub kinds_of_entities : EntityRefs → List OperandKind
kinds_of_entities e = e.block_call ∷ e.block_then ∷ e.block_else ∷ e.raw_block ∷ e.stack_slot ∷ e.dynamic_stack_slot
    ∷ e.global_value ∷ e.sig_ref ∷ e.func_ref ∷ e.jump_table ∷ e.exception_table ∷ e.varargs ∷ e.pool_constant ∷ e.uimm128 ∷ []

abbrev pub kinds_of_immediates : Immediates → List OperandKind
kinds_of_immediates i = i.imm64 ∷ i.uimm8 ∷ i.offset32 ∷ i.ieee16 ∷ i.ieee32 ∷ i.ieee64 ∷ i.intcc ∷ i.floatcc
    ∷ i.memflags ∷ i.trapcode ∷ i.atomic_rmw_op ∷ []

-- the list begins with these
pub record BeginWith (front all : List OperandKind) : Type 0 where
  pub rest : List OperandKind
  pub is : all ≡ front ++ rest
