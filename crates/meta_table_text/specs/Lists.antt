-- The lists in the text of tables, with what stands around their elements.
--     list_head list count          what stands before the first element of a list with this count
--     list_text list count lines    a list with this count of elements, whose lines these are
use Rattle.std.specs.Prelude.{ℕ, List, [], ◌++◌, codes}
use Rattle.std.specs.Fmt.{decimal}
use Rattle.meta_table_text.specs.declared.table_list.TableList.{TableList}
use Rattle.meta_table_text.specs.declared.table_list.TableList.TheVariants.{Formats, OpcodeSlots, TypeSets, Constraints, Entries}
use Rattle.meta_table_text.specs.declared.table_list.TableList.TheVariants.{Enumerators, Descriptors, SettingSlots, Presets}

-- the line before a list, of those that have one
abbrev pub title_of : TableList → List ℕ
title_of Formats = []
title_of OpcodeSlots = []
title_of TypeSets = codes "// Table of value type sets.\n"
title_of Constraints = codes "// Table of operand constraint sequences.\n"
title_of Entries = codes "// Table of opcode constraints.\n"
title_of Enumerators = []
title_of Descriptors = []
title_of SettingSlots = []
title_of Presets = []

-- what stands on the first line of a list before the count of its elements: its name and their type
abbrev pub head_of : TableList → List ℕ
head_of Formats = codes "const OPCODE_FORMAT: [InstructionFormat; "
head_of OpcodeSlots = codes "const OPCODE_HASH_TABLE: [Option<Opcode>; "
head_of TypeSets = codes "const TYPE_SETS: [ir::instructions::ValueTypeSet; "
head_of Constraints = codes "const OPERAND_CONSTRAINTS: [OperandConstraint; "
head_of Entries = codes "const OPCODE_CONSTRAINTS: [OpcodeConstraints; "
head_of Enumerators = codes "static ENUMERATORS: [&str; "
head_of Descriptors = codes "static DESCRIPTORS: [detail::Descriptor; "
head_of SettingSlots = codes "static HASH_TABLE: [u16; "
head_of Presets = codes "static PRESETS: [(u8, u8); "

-- all that stands before the first element of a list with this count of elements
unfoldable pub list_head : TableList → ℕ → List ℕ
list_head list count = title_of list ++ (head_of list ++ (decimal count ++ codes "] = [\n"))

-- the last line of a list
abbrev pub list_end : List ℕ
list_end = codes "];\n"

-- a list with this count of elements, whose lines these are
abbrev pub list_text : TableList → ℕ → List ℕ → List ℕ
list_text list count lines = list_head list count ++ (lines ++ list_end)
