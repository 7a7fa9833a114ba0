-- What stays where a registry grows.
use Rattle.std.proofs.Common.{ℕ, List}
use Rattle.std.specs.Prelude.{Option, Some, None}
use Rattle.meta_lists.proofs.Pairs.{pairs_imply}
use Rattle.meta_operands.specs.declared.field.FormatField.{FormatField}
use Rattle.meta_operands.specs.declared.format.InstructionFormat.{InstructionFormat}
use Rattle.meta_operands.specs.declared.operand.Operand.{Operand}
use Rattle.meta_inst.specs.Builder.{Builder, inputs_of, outputs_of}
use Rattle.std.specs.List.{filter_map}
use Rattle.meta_file_types.specs.Meant.{MeantKind, MeantType}
use Rattle.meta_file_types.specs.Registered.{Registered, Extends}
use Rattle.meta_file_types.proofs.Staying.{type_stays, kind_stays, operand_stays as operand_kind_stays}
use Rattle.meta_file_declare.specs.declared.insts.Insts.{Insts}
use Rattle.meta_file_declare.specs.Formats.{MeantSlot, MeantFormat, kind_in_field}
use Rattle.meta_file_declare.specs.Insts.{MeantOperand, MeantInst}
use Rattle.meta_file_declare.specs.SaidOfInsts.{SaidInsts}
use Rattle.meta_file_declare.specs.Registered.{IsFieldIn, Stores, IsFormatIn, IsOperandIn, AreOperandsIn, IsSecondIn, IsBuilderIn}
use Rattle.meta_file_declare.specs.Held.{Holds, meant_formats, formats_in, insts_in}

-- ---- formats

field_stays : (old new : Registered) → Extends old new → (kind : MeantKind) (f : FormatField) → IsFieldIn old kind f → IsFieldIn new kind f
field_stays old new e kind f h = record { kind_is = kind_stays old new kind f.kind e h.kind_is; member = h.member }

stores_stay : (old new : Registered) → Extends old new → (slots : List MeantSlot) (f : InstructionFormat) → Stores old slots f
    → Stores new slots f
stores_stay old new e slots f h = record {
  values = h.values;
  blocks = h.blocks;
  raw_blocks = h.raw_blocks;
  varargs = h.varargs;
  fields = pairs_imply (IsFieldIn old) (IsFieldIn new) (field_stays old new e) (filter_map kind_in_field slots) f.imm_fields h.fields;
}

pub format_stays : (old new : Registered) → Extends old new → (m : MeantFormat) (f : InstructionFormat) → IsFormatIn old m f
    → IsFormatIn new m f
format_stays old new e m f h = record { name = h.name; stores = stores_stay old new e m.slots f h.stores; designated = h.designated }

-- ---- instructions

operand_stays : (old new : Registered) → Extends old new → (m : MeantOperand) (o : Operand) → IsOperandIn old m o → IsOperandIn new m o
operand_stays old new e m o h = record { name = h.name; doc = h.doc; kind = operand_kind_stays old new m.what o.kind e h.kind }

pub operands_stay : (old new : Registered) → Extends old new → (ms : List MeantOperand) (operands : List Operand)
    → AreOperandsIn old ms operands → AreOperandsIn new ms operands
operands_stay old new e ms operands h = pairs_imply (IsOperandIn old) (IsOperandIn new) (operand_stays old new e) ms operands h

pub second_stays : (old new : Registered) → Extends old new → (m : Option MeantType) (n : Option ℕ) → IsSecondIn old m n
    → IsSecondIn new m n
second_stays old new e None None h = h
second_stays old new e None (Some n) h = h
second_stays old new e (Some m) None h = h
second_stays old new e (Some m) (Some n) h = type_stays old new m n e h

pub builder_stays : (old new : Registered) → Extends old new → (m : MeantInst) (b : Builder) → IsBuilderIn old m b → IsBuilderIn new m b
builder_stays old new e m b h = record {
  name = h.name;
  doc = h.doc;
  format = h.format;
  inputs_set = h.inputs_set;
  outputs_set = h.outputs_set;
  inputs = operands_stay old new e m.inputs (inputs_of b) h.inputs;
  outputs = operands_stay old new e m.outputs (outputs_of b) h.outputs;
  marks = h.marks;
  second = second_stays old new e m.second b.second h.second;
}

-- ---- all that is kept

pub holds_stay : (old new : Registered) (t : Insts) (s : SaidInsts) → Extends old new → Holds old t s → Holds new t s
holds_stay old new t s e h = record {
  words = h.words;
  formats = pairs_imply (IsFormatIn old) (IsFormatIn new) (format_stays old new e) (meant_formats s.formats) (formats_in t) h.formats;
  insts = pairs_imply (IsBuilderIn old) (IsBuilderIn new) (builder_stays old new e) s.insts (insts_in t) h.insts;
}
