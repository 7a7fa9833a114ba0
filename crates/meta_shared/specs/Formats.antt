-- The formats of the shared instruction set.
--     format_place w             the place of the format w among the 36, from 0
--     id_of f w                  its number
--     name_at w                  its name
--     format_of imm entities row      the format that a row describes
--     AreFormatsOf n f           each number is below n
use Rattle.std.specs.Prelude.{◌≡◌, ℕ, ◌+◌, ◌<◌, ◌^◌, ◌&&◌, nat_lt, Bool, true, false, List, [], ◌∷◌, ◌++◌, Option, None, Some, length, map}
use Rattle.std.specs.Prelude.{take, slice_get, codes, count_by}
use Rattle.std.specs.List.{list_all}
use Rattle.meta_operands.specs.Format.{empty_format, with_field, built_format, CanDesignate}
use Rattle.meta_operands.specs.declared.format.InstructionFormat.{InstructionFormat}
use Rattle.meta_shared.specs.Kinds.{kind_of}
use Rattle.meta_shared.specs.declared.entities.EntityRefs.{EntityRefs}
use Rattle.meta_shared.specs.declared.immediates.Immediates.{Immediates}
use Rattle.meta_shared.specs.declared.format.Format.{Format}
use Rattle.meta_shared.specs.declared.format.Format.TheVariants.{Unary, UnaryImm, UnaryIeee16, UnaryIeee32, UnaryIeee64, UnaryConst}
use Rattle.meta_shared.specs.declared.format.Format.TheVariants.{UnaryGlobalValue, Binary, BinaryImm8, Ternary, TernaryImm8, MultiAry}
use Rattle.meta_shared.specs.declared.format.Format.TheVariants.{NullAry, Shuffle, IntCompare, FloatCompare, Jump, Brif, BranchTable}
use Rattle.meta_shared.specs.declared.format.Format.TheVariants.{Call, CallIndirect, TryCall, TryCallIndirect, FuncAddr, AtomicRmw}
use Rattle.meta_shared.specs.declared.format.Format.TheVariants.{AtomicCas, Load, LoadNoOffset, Store, StoreNoOffset, StackAddr}
use Rattle.meta_shared.specs.declared.format.Format.TheVariants.{DynamicStackAddr, Trap, CondTrap, IntAddTrap, ExceptionHandlerAddress}
use Rattle.meta_shared.specs.declared.formats.Formats.{Formats}
use Rattle.meta_shared.specs.declared.formats.FormatRow.{FormatRow}
use Rattle.meta_shared.specs.declared.formats.FormatPart.{FormatPart}
use Rattle.meta_shared.specs.declared.formats.FormatPart.TheVariants.{Value, Varargs, Block, RawBlock, Immediate}

-- the place of a format among the 36
abbrev pub format_place : Format → ℕ
format_place Unary = 0
format_place UnaryImm = 1
format_place UnaryIeee16 = 2
format_place UnaryIeee32 = 3
format_place UnaryIeee64 = 4
format_place UnaryConst = 5
format_place UnaryGlobalValue = 6
format_place Binary = 7
format_place BinaryImm8 = 8
format_place Ternary = 9
format_place TernaryImm8 = 10
format_place MultiAry = 11
format_place NullAry = 12
format_place Shuffle = 13
format_place IntCompare = 14
format_place FloatCompare = 15
format_place Jump = 16
format_place Brif = 17
format_place BranchTable = 18
format_place Call = 19
format_place CallIndirect = 20
format_place TryCall = 21
format_place TryCallIndirect = 22
format_place FuncAddr = 23
format_place AtomicRmw = 24
format_place AtomicCas = 25
format_place Load = 26
format_place LoadNoOffset = 27
format_place Store = 28
format_place StoreNoOffset = 29
format_place StackAddr = 30
format_place DynamicStackAddr = 31
format_place Trap = 32
format_place CondTrap = 33
format_place IntAddTrap = 34
format_place ExceptionHandlerAddress = 35

-- its number
abbrev pub id_of : Formats → Format → ℕ
id_of f Unary = f.unary
id_of f UnaryImm = f.unary_imm
id_of f UnaryIeee16 = f.unary_ieee16
id_of f UnaryIeee32 = f.unary_ieee32
id_of f UnaryIeee64 = f.unary_ieee64
id_of f UnaryConst = f.unary_const
id_of f UnaryGlobalValue = f.unary_global_value
id_of f Binary = f.binary
id_of f BinaryImm8 = f.binary_imm8
id_of f Ternary = f.ternary
id_of f TernaryImm8 = f.ternary_imm8
id_of f MultiAry = f.multiary
id_of f NullAry = f.nullary
id_of f Shuffle = f.shuffle
id_of f IntCompare = f.int_compare
id_of f FloatCompare = f.float_compare
id_of f Jump = f.jump
id_of f Brif = f.brif
id_of f BranchTable = f.branch_table
id_of f Call = f.call
id_of f CallIndirect = f.call_indirect
id_of f TryCall = f.try_call
id_of f TryCallIndirect = f.try_call_indirect
id_of f FuncAddr = f.func_addr
id_of f AtomicRmw = f.atomic_rmw
id_of f AtomicCas = f.atomic_cas
id_of f Load = f.load
id_of f LoadNoOffset = f.load_no_offset
id_of f Store = f.store
id_of f StoreNoOffset = f.store_no_offset
id_of f StackAddr = f.stack_addr
id_of f DynamicStackAddr = f.dynamic_stack_addr
id_of f Trap = f.trap
id_of f CondTrap = f.cond_trap
id_of f IntAddTrap = f.int_add_trap
id_of f ExceptionHandlerAddress = f.exception_handler_address

-- the names in the order of the numbers
abbrev pub format_names : List (List ℕ)
format_names =
    codes "Unary" ∷
    codes "UnaryImm" ∷
    codes "UnaryIeee16" ∷
    codes "UnaryIeee32" ∷
    codes "UnaryIeee64" ∷
    codes "UnaryConst" ∷
    codes "UnaryGlobalValue" ∷
    codes "Binary" ∷
    codes "BinaryImm8" ∷
    codes "Ternary" ∷
    codes "TernaryImm8" ∷
    codes "MultiAry" ∷
    codes "NullAry" ∷
    codes "Shuffle" ∷
    codes "IntCompare" ∷
    codes "FloatCompare" ∷
    codes "Jump" ∷
    codes "Brif" ∷
    codes "BranchTable" ∷
    codes "Call" ∷
    codes "CallIndirect" ∷
    codes "TryCall" ∷
    codes "TryCallIndirect" ∷
    codes "FuncAddr" ∷
    codes "AtomicRmw" ∷
    codes "AtomicCas" ∷
    codes "Load" ∷
    codes "LoadNoOffset" ∷
    codes "Store" ∷
    codes "StoreNoOffset" ∷
    codes "StackAddr" ∷
    codes "DynamicStackAddr" ∷
    codes "Trap" ∷
    codes "CondTrap" ∷
    codes "IntAddTrap" ∷
    codes "ExceptionHandlerAddress" ∷
    []

-- the format with one more part
abbrev pub with_part : Immediates → EntityRefs → InstructionFormat → FormatPart → InstructionFormat
with_part imm entities f Value = record f { num_value_operands = f.num_value_operands + 1 }
with_part imm entities f Varargs = record f { has_value_list = true }
with_part imm entities f Block = record f { num_block_operands = f.num_block_operands + 1 }
with_part imm entities f RawBlock = record f { num_raw_block_operands = f.num_raw_block_operands + 1 }
with_part imm entities f (Immediate kind) = with_field f (kind_of imm entities kind)

-- with all these, one after the other
abbrev pub parts_added : Immediates → EntityRefs → InstructionFormat → List FormatPart → InstructionFormat
parts_added imm entities f [] = f
parts_added imm entities f (part ∷ parts) = parts_added imm entities (with_part imm entities f part) parts

-- and with this value designated, if it is told
abbrev pub designating : InstructionFormat → Option ℕ → InstructionFormat
designating f None = f
designating f (Some place) = record f { typevar_operand = Some place }

-- the format that a row describes
abbrev pub format_of : Immediates → EntityRefs → FormatRow → InstructionFormat
format_of imm entities row = built_format (designating (parts_added imm entities (empty_format row.name.now) row.parts.now) row.designated)

abbrev pub formats_of : Immediates → EntityRefs → List FormatRow → List InstructionFormat
formats_of imm entities rows = map (format_of imm entities) rows

-- whether a part is a value
abbrev pub is_value : FormatPart → Bool
is_value Value = true
is_value Varargs = false
is_value Block = false
is_value RawBlock = false
is_value (Immediate kind) = false

-- whether the designated value, if one is given, is one of the first `count` values
abbrev pub is_place_within : ℕ → Option ℕ → Bool
is_place_within count None = true
is_place_within count (Some place) = nat_lt place count

-- whether a row has few parts and designates one of its values
abbrev pub is_format_row : FormatRow → Bool
is_format_row row = nat_lt (length row.parts.now) 10 && is_place_within (count_by is_value row.parts.now) row.designated

abbrev pub IsFormatRow : FormatRow → Type 0
IsFormatRow row = is_format_row row ≡ true

abbrev pub row_name : FormatRow → List ℕ
row_name row = row.name.now

abbrev pub format_name : InstructionFormat → List ℕ
format_name format = format.name

-- the name that stands at the place of a format
abbrev pub name_at : Format → Option (List ℕ)
name_at format = slice_get format_names (format_place format)

-- the rows have the names of the formats, and each can be built
pub record AreFormatRows (rows : List FormatRow) : Type 0 where
  pub names : map row_name rows ≡ format_names
  pub sound : list_all is_format_row rows ≡ true

-- `parts` more parts can be added
pub record CanAdd (f : InstructionFormat) (parts : ℕ) : Type 0 where
  pub values : f.num_value_operands + parts < 2 ^ 32
  pub blocks : f.num_block_operands + parts < 2 ^ 32
  pub raw_blocks : f.num_raw_block_operands + parts < 2 ^ 32

-- the value can be designated, if one is told
abbrev pub CanPlace : InstructionFormat → Option ℕ → Type 0
CanPlace f designated = (place : ℕ) → designated ≡ Some place → CanDesignate f place

-- formats of these names are added at the end, each as a row describes it
pub record AddsNamed (names : List (List ℕ)) (imm : Immediates) (entities : EntityRefs) (old new : List InstructionFormat) : Type 0 where
  pub rows : List FormatRow
  pub are_named : map row_name rows ≡ names
  pub is : new ≡ old ++ formats_of imm entities rows

-- all 36 are added
abbrev pub AddsAll : Immediates → EntityRefs → List InstructionFormat → List InstructionFormat → Type 0
AddsAll = AddsNamed format_names

-- the first of them are added
pub record AddsFront (imm : Immediates) (entities : EntityRefs) (old new : List InstructionFormat) : Type 0 where
  pub count : ℕ
  pub adds : AddsNamed (take count format_names) imm entities old new

-- `count` numbers, which count on from the first
pub record AreNumbered (first count : ℕ) (ids : List ℕ) : Type 0 where
  pub count_is : length ids ≡ count
  pub at : (k : ℕ) → k < count → slice_get ids k ≡ Some (first + k)

-- the numbers count on from the first in the order of the names
abbrev pub AreNumberedFrom : ℕ → Formats → Type 0
AreNumberedFrom first f = (format : Format) → id_of f format ≡ first + format_place format

-- each number is below n
abbrev pub AreFormatsOf : ℕ → Formats → Type 0
AreFormatsOf n f = (format : Format) → id_of f format < n
