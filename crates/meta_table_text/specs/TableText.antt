-- The text of tables.
--     opcodes_text v t       the text of the tables of an instruction set
--     table_text v t         the text of whole tables, in this version
use Rattle.std.specs.Prelude.{ℕ, ◌==◌, List, [], ◌∷◌, ◌++◌, length, if◌then◌else◌, codes}
use Rattle.std.specs.List.{flat_map}
use Rattle.std.specs.Fmt.{decimal}
use Rattle.meta_inst.specs.Tables.{TableContents}
use Rattle.meta_gen.specs.WholeTables.{WholeTables}
use Rattle.meta_text.specs.Lines.{at, text_of}
use Rattle.meta_table_text.specs.declared.version.Version.{Version}
use Rattle.meta_table_text.specs.declared.table_list.TableList.TheVariants.{Formats, OpcodeSlots, TypeSets, Constraints, Entries}
use Rattle.meta_table_text.specs.Version.{version_number}
use Rattle.meta_table_text.specs.Lists.{list_text}
use Rattle.meta_table_text.specs.TypeSetText.{set_block}
use Rattle.meta_table_text.specs.ConstraintText.{constraint_line}
use Rattle.meta_table_text.specs.OpcodeText.{each_opcode, format_line, slot_line, opcode_block}
use Rattle.meta_table_text.specs.GroupText.{group_text}

-- the first line of the text
unfoldable pub version_line : Version → List ℕ
version_line v = text_of (at 0 (codes "// Table text version " ∷ decimal (version_number v) ∷ codes "." ∷ []) ∷ [])

-- the list of the formats, by opcode
unfoldable pub formats_part : TableContents → List ℕ
formats_part t = list_text Formats (length t.entries) (each_opcode (format_line t) (length t.entries))

-- the list of the slots of the names
unfoldable pub slots_part : TableContents → List ℕ
slots_part t = list_text OpcodeSlots (length t.opcode_slots) (flat_map (slot_line t) t.opcode_slots)

-- the list of the type sets
unfoldable pub sets_list : TableContents → List ℕ
sets_list t = list_text TypeSets (length t.type_sets) (flat_map set_block t.type_sets)

-- it is left out where there is no type set
unfoldable pub sets_part : TableContents → List ℕ
sets_part t = if length t.type_sets == 0 then [] else sets_list t

-- the list of the operand constraints
unfoldable pub constraints_part : TableContents → List ℕ
constraints_part t = list_text Constraints (length t.operand_constraints) (flat_map constraint_line t.operand_constraints)

-- the list of the opcodes' numbers
unfoldable pub entries_part : Version → TableContents → List ℕ
entries_part v t = list_text Entries (length t.entries) (each_opcode (opcode_block v t) (length t.entries))

-- the text of the tables of an instruction set
unfoldable pub opcodes_text : Version → TableContents → List ℕ
opcodes_text v t = version_line v ++ (formats_part t ++ (slots_part t ++ (sets_part t ++ (constraints_part t ++ entries_part v t))))

-- the text of whole tables: that of the instruction set, and then that of each group of settings
unfoldable pub table_text : Version → WholeTables → List ℕ
table_text v t = opcodes_text v t.opcodes ++ flat_map group_text t.groups
