-- Rows of the tables of instructions, and what is made of them.
--     IsOperandOf vars m row o       the operand is what the row says
--     IsBuilderOf vars m row b       the instruction is what the row says
--     AddsRows vars m rows old new   an instruction is added for each row, in order
--     FitsNames vars f format b      the instruction is of this format of f, and names variables of vars alone
use Rattle.std.specs.Prelude.{◌≡◌, ◌+◌, ◌&&◌, ℕ, Bool, true, List, [], ◌∷◌, ◌++◌, length, map, slice_get, Option, None, count_by, sum_by}
use Rattle.std.specs.List.{AllZip, flat_map, list_all}
use Rattle.std.specs.Borrow.{Bor}
use Rattle.std.specs.Option.{option_map}
use Rattle.meta_typevar.specs.declared.content.TypeVarContent.{TypeVarContent}
use Rattle.meta_operands.specs.Operand.{own_doc}
use Rattle.meta_operands.specs.declared.format.InstructionFormat.{InstructionFormat}
use Rattle.meta_operands.specs.declared.operand.Operand.{Operand}
use Rattle.meta_inst.specs.Builder.{Builder, inputs_of, outputs_of}
use Rattle.meta_inst.specs.InstructionSet.{FitsBuilder}
use Rattle.meta_inst.specs.Marks.{no_marks, terminator, branch, returning}
use Rattle.meta_inst.specs.declared.marks.Marks.{Marks}
use Rattle.meta_shared.specs.Formats.{AreFormatsOf, format_name, id_of}
use Rattle.meta_shared.specs.Words.{Meanings, IsKindOfWord, is_derived, is_derivable}
use Rattle.meta_shared.specs.declared.format.Format.{Format}
use Rattle.meta_shared.specs.declared.formats.Formats.{Formats}
use Rattle.meta_shared.specs.declared.row.Mark.{Mark}
use Rattle.meta_shared.specs.declared.row.Mark.TheVariants.{Branch, Terminator, Call, Return, Load, Store, Trap, OtherEffect}
use Rattle.meta_shared.specs.declared.row.Mark.TheVariants.{Idempotent, ImmMethod}
use Rattle.meta_shared.specs.declared.row.OperandRow.{OperandRow}
use Rattle.meta_shared.specs.declared.row.Row.{Row}

-- the marks with one more
abbrev pub with_mark : Marks → Mark → Marks
with_mark m Branch = branch m
with_mark m Terminator = terminator m
with_mark m Call = record m { is_call = true }
with_mark m Return = returning m
with_mark m Load = record m { can_load = true }
with_mark m Store = record m { can_store = true }
with_mark m Trap = record m { can_trap = true }
with_mark m OtherEffect = record m { other_side_effects = true }
with_mark m Idempotent = record m { side_effects_idempotent = true }
with_mark m ImmMethod = record m { inst_builder_imm_method = true }

-- with all these, one after the other
abbrev pub marks_added : Marks → List Mark → Marks
marks_added m [] = m
marks_added m (mark ∷ marks) = marks_added (with_mark m mark) marks

-- the documentation of an operand, where it has one of its own
abbrev pub doc_of_row : OperandRow → Option (List ℕ)
doc_of_row row = option_map (λ doc. doc.now) row.doc

-- the operand is what the row says
pub record IsOperandOf (vars : List TypeVarContent) (m : Meanings) (row : OperandRow) (o : Operand) : Type 0 where
  pub name : o.name ≡ row.name.now
  pub doc : own_doc o ≡ doc_of_row row
  pub kind : IsKindOfWord vars m row.word o.kind

-- the operands are what the rows say, in order
abbrev pub AreOperandsOfRows : List TypeVarContent → Meanings → List OperandRow → List Operand → Type 0
AreOperandsOfRows vars m rows operands = AllZip (IsOperandOf vars m) rows operands

-- the instruction is what the row says
pub record IsBuilderOf (vars : List TypeVarContent) (m : Meanings) (row : Row) (b : Builder) : Type 0 where
  pub name : b.name ≡ row.name.now
  pub doc : b.doc ≡ row.doc.now
  pub format : b.format ≡ id_of m.formats row.format
  pub inputs : AreOperandsOfRows vars m row.inputs.now (inputs_of b)
  pub outputs : AreOperandsOfRows vars m row.outputs.now (outputs_of b)
  pub marks : b.marks ≡ marks_added no_marks row.marks.now
  pub second : b.second ≡ None

-- the instructions are what the rows say, in order
abbrev pub AreBuildersOf : List TypeVarContent → Meanings → List Row → List Builder → Type 0
AreBuildersOf vars m rows builders = AllZip (IsBuilderOf vars m) rows builders

-- an instruction is added at the end for each row, in order
pub record AddsRows (vars : List TypeVarContent) (m : Meanings) (rows : List Row) (old new : List Builder) : Type 0 where
  pub more : List Builder
  pub is : new ≡ old ++ more
  pub builders : AreBuildersOf vars m rows more

-- how many operands are values of derived variables
abbrev pub derived_among : List OperandRow → ℕ
derived_among operands = count_by (λ row. is_derived row.word) operands

abbrev pub derived_in_row : Row → ℕ
derived_in_row row = derived_among row.inputs.now + derived_among row.outputs.now

abbrev pub derived_in : List Row → ℕ
derived_in rows = sum_by derived_in_row rows

-- whether each of them can be derived
abbrev pub are_derivable : List OperandRow → Bool
are_derivable operands = list_all (λ row. is_derivable row.word) operands

abbrev pub is_derivable_row : Row → Bool
is_derivable_row row = are_derivable row.inputs.now && are_derivable row.outputs.now

-- the rows of tables
abbrev pub rows_in : List (Bor (List Row)) → List Row
rows_in tables = flat_map (λ table. table.now) tables

abbrev pub row_name : Row → List ℕ
row_name row = row.name.now

abbrev pub row_format : Row → Format
row_format row = row.format

-- the rows have these names and these formats, this count of operands with derived variables, and each of these can be derived
pub record IsTable (names : List (List ℕ)) (formats : List Format) (derived : ℕ) (rows : List Row) : Type 0 where
  pub are_named : map row_name rows ≡ names
  pub are_of : map row_format rows ≡ formats
  pub are_derived : derived_in rows ≡ derived
  pub derivable : list_all is_derivable_row rows ≡ true

abbrev pub builder_name : Builder → List ℕ
builder_name b = b.name

-- the instruction has the number that this format has in f, and names variables of vars alone: it fits any formats that those of f
-- are of
pub record FitsNames (vars : List TypeVarContent) (f : Formats) (format : Format) (b : Builder) : Type 0 where
  pub number : b.format ≡ id_of f format
  pub fits : (formats : List InstructionFormat) → AreFormatsOf (length formats) f → FitsBuilder vars formats b

-- the name of the format whose number an instruction has, if there is a format of this number
abbrev pub named_format : List InstructionFormat → Builder → Option (List ℕ)
named_format formats b = option_map format_name (slice_get formats b.format)
