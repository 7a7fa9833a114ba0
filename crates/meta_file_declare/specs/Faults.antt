-- The items that declare what faults name.
--     DeclaresAt items d k p      the item at place k declares what stands at the place p of the declarations
--     HasItsItem items d e        the item that the fault is about declares what the fault names
use Rattle.std.specs.Prelude.{◌≡◌, ℕ, ◌+◌, List, length, take, slice_get, count_by, Some, Ok}
use Rattle.meta_types.specs.declared.fault.Place.{Place}
use Rattle.meta_types.specs.declared.fault.Place.TheVariants.{Instruction, Format, Group, Entry}
use Rattle.meta_types.specs.declared.fault.DefinitionError.{DefinitionError}
use Rattle.meta_operands.specs.declared.format.InstructionFormat.{InstructionFormat}
use Rattle.meta_inst.specs.Builder.{Builder}
use Rattle.meta_inst.specs.InstructionSet.{InstructionSet}
use Rattle.meta_build.specs.AllDeclared.{Declared}
use Rattle.meta_file_syntax.specs.declared.formats.FormatItem.{FormatItem}
use Rattle.meta_file_syntax.specs.declared.insts.InstItem.{InstItem}
use Rattle.meta_file_syntax.specs.declared.items.Item.{Item}
use Rattle.meta_file_syntax.specs.declared.items.Item.TheVariants as item
use Rattle.meta_file_declare.specs.Formats.{MeantFormat, format_of}
use Rattle.meta_file_declare.specs.Insts.{MeantInst, inst_of}
use Rattle.meta_file_declare.specs.Registered.{IsFormatIn, IsBuilderIn}
use Rattle.meta_file_declare.specs.SaidOfInsts.{said}
use Rattle.meta_file_declare.specs.Places.{is_format, is_inst, named_by, place_of_fault}
use Rattle.meta_file_declare.specs.Entries.{DeclaresGroup, DeclaresEntry}
use Rattle.meta_file_declare.specs.AllItems.{registry_of}

-- ---- what an item at a place declares

-- the item at place k is the n-th `inst`, from 0, and the n-th instruction is what it says after the items above it
pub record DeclaresInst (items : List Item) (set : InstructionSet) (k n : ℕ) : Type 0 where
  pub inst : InstItem
  pub meant : MeantInst
  pub declared : Builder
  pub at : slice_get items k ≡ Some (item.Inst inst)
  pub above : count_by is_inst (take k items) ≡ n
  pub says : inst_of (said (take k items)).types.words (said (take k items)).insts.formats inst ≡ Ok meant
  pub stands : slice_get set.instructions n ≡ Some declared
  pub is : IsBuilderIn (registry_of items set) meant declared

-- the same of a `format` and a format
pub record DeclaresFormat (items : List Item) (set : InstructionSet) (k n : ℕ) : Type 0 where
  pub format : FormatItem
  pub meant : MeantFormat
  pub declared : InstructionFormat
  pub at : slice_get items k ≡ Some (item.Format format)
  pub above : count_by is_format (take k items) ≡ n
  pub says : format_of (said (take k items)).types.words (said (take k items)).insts.formats format ≡ Ok meant
  pub stands : slice_get set.formats n ≡ Some declared
  pub is : IsFormatIn (registry_of items set) meant declared

-- the item at place k declares what stands at this place: an instruction, which counts from 1, or a format, a group or an entry, which
-- count from 0
abbrev pub DeclaresAt : List Item → Declared → ℕ → Place → Type 0
DeclaresAt items d k (Instruction i) = (n : ℕ) × (i ≡ n + 1) × DeclaresInst items d.set k n
DeclaresAt items d k (Format f) = DeclaresFormat items d.set k f
DeclaresAt items d k (Group g) = DeclaresGroup items d.groups k g
DeclaresAt items d k (Entry g e) = DeclaresEntry items d.groups k g e

-- ---- faults

-- the item that the fault is about declares what the fault names
pub record HasItsItem (items : List Item) (d : Declared) (e : DefinitionError) : Type 0 where
  pub place : ℕ
  pub named : Place
  pub item : place_of_fault items e ≡ Some place
  pub names : named_by (length d.set.instructions) e ≡ Some named
  pub declares : DeclaresAt items d place named
