-- The kinds of operands other than values.
--     kind_of imm entities k      the kind of this name
--     AreEntities e, AreImmediates i      the kinds are those of the shared instruction set
--     EntitiesHoldNoVariable e, ImmediatesHoldNoVariable i      none of the kinds is of values
use Rattle.std.specs.Prelude.{◌≡◌, ℕ, List, [], ◌∷◌, None, codes}
use Rattle.std.specs.Borrow.{Bor}
use Rattle.meta_operands.specs.EnumEntries.{EnumEntries, with_value}
use Rattle.meta_operands.specs.Kind.{variable_in}
use Rattle.meta_operands.specs.declared.kind.OperandKind.{OperandKind}
use Rattle.meta_operands.specs.declared.kind.OperandKindFields.{OperandKindFields}
use Rattle.meta_operands.specs.declared.kind.OperandKindFields.TheVariants.{EntityRef, VariableArgs, ImmValue, ImmEnum}
use Rattle.meta_shared.specs.declared.entities.EntityRefs.{EntityRefs}
use Rattle.meta_shared.specs.declared.immediates.Immediates.{Immediates}
use Rattle.meta_shared.specs.declared.kind.Kind.{Kind}
use Rattle.meta_shared.specs.declared.kind.Kind.TheVariants.{BlockCall, BlockThen, BlockElse, RawBlock, StackSlot, DynamicStackSlot}
use Rattle.meta_shared.specs.declared.kind.Kind.TheVariants.{GlobalValue, SigRef, FuncRef, JumpTable, ExceptionTable, Varargs}
use Rattle.meta_shared.specs.declared.kind.Kind.TheVariants.{PoolConstant, Uimm128, Imm64, Uimm8, Offset32, Ieee16, Ieee32, Ieee64}
use Rattle.meta_shared.specs.declared.kind.Kind.TheVariants.{Intcc, Floatcc, Memflags, Trapcode, AtomicRmwOp}

-- the values of an enum, put in one after the other
abbrev pub with_values : List (Bor (List ℕ) × Bor (List ℕ)) → EnumEntries → EnumEntries
with_values [] es = es
with_values (pair ∷ pairs) es = with_values pairs (with_value es pair.0.now pair.1.now)

abbrev pub pairs_as_values : List (Bor (List ℕ) × Bor (List ℕ)) → EnumEntries
pairs_as_values pairs = with_values pairs []

-- a kind with this field name and Rust type, whose operands are these
pub record IsKindOf (fields : OperandKindFields) (field_name rust_type : List ℕ) (kind : OperandKind) : Type 0 where
  pub fields_are : kind.fields ≡ fields
  pub field_name_is : kind.rust_field_name ≡ field_name
  pub rust_type_is : kind.rust_type ≡ rust_type

-- a kind of an enum with this field name and Rust type
pub record IsEnum (field_name rust_type : List ℕ) (kind : OperandKind) : Type 0 where
  pub values : EnumEntries
  pub fields_are : kind.fields ≡ ImmEnum values
  pub field_name_is : kind.rust_field_name ≡ field_name
  pub rust_type_is : kind.rust_type ≡ rust_type

-- the kinds of the shared instruction set
pub record AreEntities (e : EntityRefs) : Type 0 where
  pub block_call : IsKindOf EntityRef (codes "destination") (codes "ir::BlockCall") e.block_call
  pub block_then : IsKindOf EntityRef (codes "block_then") (codes "ir::BlockCall") e.block_then
  pub block_else : IsKindOf EntityRef (codes "block_else") (codes "ir::BlockCall") e.block_else
  pub raw_block : IsKindOf EntityRef (codes "raw_block") (codes "ir::Block") e.raw_block
  pub stack_slot : IsKindOf EntityRef (codes "stack_slot") (codes "ir::StackSlot") e.stack_slot
  pub dynamic_stack_slot : IsKindOf EntityRef (codes "dynamic_stack_slot") (codes "ir::DynamicStackSlot") e.dynamic_stack_slot
  pub global_value : IsKindOf EntityRef (codes "global_value") (codes "ir::GlobalValue") e.global_value
  pub sig_ref : IsKindOf EntityRef (codes "sig_ref") (codes "ir::SigRef") e.sig_ref
  pub func_ref : IsKindOf EntityRef (codes "func_ref") (codes "ir::FuncRef") e.func_ref
  pub jump_table : IsKindOf EntityRef (codes "table") (codes "ir::JumpTable") e.jump_table
  pub exception_table : IsKindOf EntityRef (codes "exception") (codes "ir::ExceptionTable") e.exception_table
  pub varargs : IsKindOf VariableArgs [] (codes "&[Value]") e.varargs
  pub pool_constant : IsKindOf EntityRef (codes "constant_handle") (codes "ir::Constant") e.pool_constant
  pub uimm128 : IsKindOf EntityRef (codes "imm") (codes "ir::Immediate") e.uimm128

pub record AreImmediates (i : Immediates) : Type 0 where
  pub imm64 : IsKindOf ImmValue (codes "imm") (codes "ir::immediates::Imm64") i.imm64
  pub uimm8 : IsKindOf ImmValue (codes "imm") (codes "ir::immediates::Uimm8") i.uimm8
  pub offset32 : IsKindOf ImmValue (codes "offset") (codes "ir::immediates::Offset32") i.offset32
  pub ieee16 : IsKindOf ImmValue (codes "imm") (codes "ir::immediates::Ieee16") i.ieee16
  pub ieee32 : IsKindOf ImmValue (codes "imm") (codes "ir::immediates::Ieee32") i.ieee32
  pub ieee64 : IsKindOf ImmValue (codes "imm") (codes "ir::immediates::Ieee64") i.ieee64
  pub intcc : IsEnum (codes "cond") (codes "ir::condcodes::IntCC") i.intcc
  pub floatcc : IsEnum (codes "cond") (codes "ir::condcodes::FloatCC") i.floatcc
  pub memflags : IsKindOf ImmValue (codes "flags") (codes "ir::MemFlags") i.memflags
  pub trapcode : IsEnum (codes "code") (codes "ir::TrapCode") i.trapcode
  pub atomic_rmw_op : IsEnum (codes "op") (codes "ir::AtomicRmwOp") i.atomic_rmw_op

-- operands of the kind are no values
abbrev pub HoldsNoVariable : OperandKind → Type 0
HoldsNoVariable kind = variable_in kind.fields ≡ None

pub record EntitiesHoldNoVariable (e : EntityRefs) : Type 0 where
  pub block_call : HoldsNoVariable e.block_call
  pub block_then : HoldsNoVariable e.block_then
  pub block_else : HoldsNoVariable e.block_else
  pub raw_block : HoldsNoVariable e.raw_block
  pub stack_slot : HoldsNoVariable e.stack_slot
  pub dynamic_stack_slot : HoldsNoVariable e.dynamic_stack_slot
  pub global_value : HoldsNoVariable e.global_value
  pub sig_ref : HoldsNoVariable e.sig_ref
  pub func_ref : HoldsNoVariable e.func_ref
  pub jump_table : HoldsNoVariable e.jump_table
  pub exception_table : HoldsNoVariable e.exception_table
  pub varargs : HoldsNoVariable e.varargs
  pub pool_constant : HoldsNoVariable e.pool_constant
  pub uimm128 : HoldsNoVariable e.uimm128

pub record ImmediatesHoldNoVariable (i : Immediates) : Type 0 where
  pub imm64 : HoldsNoVariable i.imm64
  pub uimm8 : HoldsNoVariable i.uimm8
  pub offset32 : HoldsNoVariable i.offset32
  pub ieee16 : HoldsNoVariable i.ieee16
  pub ieee32 : HoldsNoVariable i.ieee32
  pub ieee64 : HoldsNoVariable i.ieee64
  pub intcc : HoldsNoVariable i.intcc
  pub floatcc : HoldsNoVariable i.floatcc
  pub memflags : HoldsNoVariable i.memflags
  pub trapcode : HoldsNoVariable i.trapcode
  pub atomic_rmw_op : HoldsNoVariable i.atomic_rmw_op

-- the kind of this name
abbrev pub kind_of : Immediates → EntityRefs → Kind → OperandKind
kind_of imm entities BlockCall = entities.block_call
kind_of imm entities BlockThen = entities.block_then
kind_of imm entities BlockElse = entities.block_else
kind_of imm entities RawBlock = entities.raw_block
kind_of imm entities StackSlot = entities.stack_slot
kind_of imm entities DynamicStackSlot = entities.dynamic_stack_slot
kind_of imm entities GlobalValue = entities.global_value
kind_of imm entities SigRef = entities.sig_ref
kind_of imm entities FuncRef = entities.func_ref
kind_of imm entities JumpTable = entities.jump_table
kind_of imm entities ExceptionTable = entities.exception_table
kind_of imm entities Varargs = entities.varargs
kind_of imm entities PoolConstant = entities.pool_constant
kind_of imm entities Uimm128 = entities.uimm128
kind_of imm entities Imm64 = imm.imm64
kind_of imm entities Uimm8 = imm.uimm8
kind_of imm entities Offset32 = imm.offset32
kind_of imm entities Ieee16 = imm.ieee16
kind_of imm entities Ieee32 = imm.ieee32
kind_of imm entities Ieee64 = imm.ieee64
kind_of imm entities Intcc = imm.intcc
kind_of imm entities Floatcc = imm.floatcc
kind_of imm entities Memflags = imm.memflags
kind_of imm entities Trapcode = imm.trapcode
kind_of imm entities AtomicRmwOp = imm.atomic_rmw_op
