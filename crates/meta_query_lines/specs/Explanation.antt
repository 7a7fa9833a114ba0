-- Which text answers a line, by tables and, where they are known, the instructions of which they were made.
--     IsWhy tables told q text                   `accept`, or why the types of a question are refused
--     AreTypesOf tables name c text              how the operands of an instruction go by its controls, or what they may be under c
--     AreFound tables results values text        the names and controls that accept these types
--     AreNames tables told name text             the names of instructions
--     IsExplanation tables told line text        the text that answers the line
use Rattle.std.specs.Prelude.{◌≡◌, ◌≢◌, ◌⊎◌, ℕ, ◌+◌, true, List, [], ◌∷◌, ◌++◌, map, length, slice_get, Option, None, Some}
use Rattle.std.specs.Prelude.{unwrap_or, codes}
use Rattle.std.specs.Global.{Vec}
use Rattle.std.specs.Option.{option_map, option_and_then}
use Rattle.meta_lists.specs.First.{IsFirst}
use Rattle.meta_types.specs.TypeParts.{number_of}
use Rattle.meta_inst.specs.Built.{BuiltInstruction}
use Rattle.meta_inst.specs.Tables.{TableContents, OpcodeNumbers, NumberConstraint, at_opcode, result_count, value_count}
use Rattle.meta_gen.specs.Contents.{IsOpcode, IsOpcodeNamed}
use Rattle.meta_gen.specs.Question.{Question}
use Rattle.meta_gen.specs.Reply.{reply_text}
use Rattle.meta_gen.specs.WholeTables.{WholeTables}
use Rattle.meta_gen.specs.declared.reply.Reply.{Reply}
use Rattle.meta_file_syntax.specs.Words.{property_of}
use Rattle.meta_file_syntax.specs.declared.insts.Property.{Property}
use Rattle.meta_explain.specs.Found.{Finds, IsBefore}
use Rattle.meta_explain.specs.Listed.{AreListed, IsLess}
use Rattle.meta_explain.specs.Operands.{AcceptsSome, MayBe}
use Rattle.meta_explain.specs.Options.{AreControlOptions}
use Rattle.meta_explain.specs.Texts.{set_text, alternatives_text, place_text, held_text, wants_text, demand_text}
use Rattle.meta_explain.specs.Wanted.{IsExplained}
use Rattle.meta_explain.specs.declared.control_options.ControlOptions.{ControlOptions}
use Rattle.meta_explain.specs.declared.control_types.ControlTypes.{ControlTypes}
use Rattle.meta_explain.specs.declared.explained.Explained.{Explained}
use Rattle.meta_explain.specs.declared.explained.Explained.TheVariants.{Accept, Refuse}
use Rattle.meta_explain.specs.declared.found.Found.{Found}
use Rattle.meta_explain.specs.declared.part.Part.{Part}
use Rattle.meta_explain.specs.declared.part.Part.TheVariants.{Control, Second, ResultCount, ValueCount, Operand}
use Rattle.meta_query_lines.specs.Answer.{GivenReply, SettingReply}
use Rattle.meta_query_lines.specs.Query.{Asked, OfQuestion, OfInference, OfSetting, Asks}
use Rattle.meta_query_lines.specs.Request.{Request, OfTypes, OfFind, OfNames, controls_text, Requests}
use Rattle.meta_query_lines.specs.SettingLine.{list_of_names}
use Rattle.meta_query_lines.specs.Told.{instruction_at, operand_name, has_mark}

-- ---- `accept`

-- the name of the operand that a part is, after a blank, where it is known
abbrev pub named_after : Option (List ℕ) → List ℕ
named_after None = []
named_after (Some name) = 32 ∷ name

abbrev pub part_name : Option (List BuiltInstruction) → ℕ → Part → List ℕ
part_name told op Control = []
part_name told op Second = []
part_name told op ResultCount = []
part_name told op ValueCount = []
part_name told op (Operand k) = named_after (operand_name told op k)

-- `accept`, or `refuse`, the part that fails first, what it has and what it has to be: `refuse value 1 y: has i64, wants i32`
abbrev pub why_text : Option (List BuiltInstruction) → ℕ → ControlTypes → List ℕ → List ℕ → Explained → List ℕ
why_text told op c rs vs Accept = codes "accept"
why_text told op c rs vs (Refuse p w) =
    codes "refuse " ++ (place_text p (length rs) ++ (part_name told op p
    ++ (codes ": " ++ (held_text p c rs vs ++ (codes ", " ++ wants_text w)))))

-- the controls of a question, by their numbers
abbrev pub asked_controls : Question → ControlTypes
asked_controls q = record { ctrl = option_map number_of q.control; second = option_map number_of q.second }

-- why the opcode that has the name accepts or refuses what is asked
pub record IsExplainedFor (tables : TableContents) (told : Option (List BuiltInstruction)) (q : Question) (text : List ℕ) : Type 0 where
  pub opcode : ℕ
  pub named : IsFirst (IsOpcodeNamed tables.names q.name) opcode
  pub why : Explained
  pub explained : IsExplained tables opcode (asked_controls q) (map number_of q.results) (map number_of q.values) why
  pub is : text ≡ why_text told opcode (asked_controls q) (map number_of q.results) (map number_of q.values) why

-- no opcode has the name, and the text is `unknown`
abbrev pub IsUnknownName : TableContents → List ℕ → List ℕ → Type 0
IsUnknownName tables name text = ((op : ℕ) → at_opcode tables.names op ≢ Some name) × (text ≡ codes "unknown")

abbrev pub IsWhy : TableContents → Option (List BuiltInstruction) → Question → List ℕ → Type 0
IsWhy tables told q text = IsExplainedFor tables told q text ⊎ IsUnknownName tables q.name text

-- ---- `types`

-- a list of as many words, parted by commas, or `-` for none: P holds of each place and the word there
pub record IsListOf (P : ℕ → List ℕ → Type 0) (count : ℕ) (text : List ℕ) : Type 0 where
  pub words : List (List ℕ)
  pub as_many : length words ≡ count
  pub each : (k : ℕ) (word : List ℕ) → slice_get words k ≡ Some word → P k word
  pub is : text ≡ list_of_names words

-- how the k-th operand is told: as it goes by the controls, or, under controls, by exactly the types that it may have
abbrev pub IsOperandTold : TableContents → ℕ → OpcodeNumbers → Option ControlTypes → ℕ → List ℕ → Type 0
IsOperandTold tables op e None k word = (x : NumberConstraint) × (slice_get tables.operand_constraints (e.constraint_offset + k) ≡ Some x)
    × (word ≡ demand_text tables.type_sets x)
IsOperandTold tables op e (Some c) k word = (numbers : List ℕ) × AreListed IsLess (MayBe tables op c k) numbers
    × (word ≡ alternatives_text numbers)

-- `results A,B values C`: how the operands of the opcode are told, the results in order, and then the values
pub record AreOperandsTold (tables : TableContents) (op : ℕ) (c : Option ControlTypes) (text : List ℕ) : Type 0 where
  pub entry : OpcodeNumbers
  pub is_opcode : at_opcode tables.entries op ≡ Some entry
  pub results : List ℕ
  pub values : List ℕ
  pub are_results : IsListOf (λ k word. IsOperandTold tables op entry c k word) (result_count entry.flags) results
  pub are_values : IsListOf (λ k word. IsOperandTold tables op entry c (result_count entry.flags + k) word) (value_count entry.flags) values
  pub is : text ≡ codes "results " ++ (results ++ (codes " values " ++ values))

-- `control SET`: exactly the controls under which the opcode accepts something, and `-` for no control
abbrev pub control_set : Option (Vec ℕ) → List ℕ
control_set None = codes "-"
control_set (Some numbers) = set_text numbers.items

-- ` second SET`: the same of the second control, and nothing where there is none
abbrev pub second_set : Option (Vec ℕ) → List ℕ
second_set None = []
second_set (Some numbers) = codes " second " ++ set_text numbers.items

-- how an opcode goes by its controls: the controls under which it accepts something, and how the operands go by them
pub record AreShapes (tables : TableContents) (op : ℕ) (text : List ℕ) : Type 0 where
  pub options : ControlOptions
  pub are_options : AreControlOptions tables op options
  pub operands : List ℕ
  pub are_operands : AreOperandsTold tables op None operands
  pub is : text ≡ codes "control " ++ (control_set options.first ++ (second_set options.second ++ 32 ∷ operands))

-- the same, and `refuse` where the opcode never accepts anything
abbrev pub AreTypesTold : TableContents → ℕ → List ℕ → Type 0
AreTypesTold tables op text = AreShapes tables op text ⊎ (((c : ControlTypes) → AcceptsSome tables op c → ⊥) × (text ≡ codes "refuse"))

-- what each operand may be under these controls, and `refuse` where the opcode accepts nothing under them
abbrev pub AreTypesUnder : TableContents → ℕ → ControlTypes → List ℕ → Type 0
AreTypesUnder tables op c text = (AcceptsSome tables op c × AreOperandsTold tables op (Some c) text)
    ⊎ ((AcceptsSome tables op c → ⊥) × (text ≡ codes "refuse"))

-- by whether controls are given
abbrev pub AreTypesBy : TableContents → Option ControlTypes → ℕ → List ℕ → Type 0
AreTypesBy tables None op text = AreTypesTold tables op text
AreTypesBy tables (Some c) op text = AreTypesUnder tables op c text

-- the same of the opcode that has the name
abbrev pub AreTypesOf : TableContents → List ℕ → Option ControlTypes → List ℕ → Type 0
AreTypesOf tables name c text = ((op : ℕ) × IsFirst (IsOpcodeNamed tables.names name) op × AreTypesBy tables c op text)
    ⊎ IsUnknownName tables name text

-- ---- `find`

-- the name of an opcode
abbrev pub opcode_text : TableContents → ℕ → List ℕ
opcode_text tables op = unwrap_or (at_opcode tables.names op) []

-- `smull i8x8`: the opcode and its controls
abbrev pub found_text : TableContents → Found → List ℕ
found_text tables x = opcode_text tables x.opcode ++ 32 ∷ controls_text x.controls

-- exactly the opcodes and controls under which types are accepted that match, in order, parted by commas; `-` where there are none
pub record AreFound (tables : TableContents) (results values : List (Option ℕ)) (text : List ℕ) : Type 0 where
  pub found : List Found
  pub listed : AreListed IsBefore (Finds tables results values) found
  pub is : text ≡ list_of_names (map (found_text tables) found)

-- ---- `list`

-- the names of exactly the opcodes of which P holds, in order, parted by commas; `-` where there are none
pub record AreNamesOf (tables : TableContents) (P : ℕ → Type 0) (text : List ℕ) : Type 0 where
  pub opcodes : List ℕ
  pub listed : AreListed IsLess P opcodes
  pub is : text ≡ list_of_names (map (opcode_text tables) opcodes)

-- the instruction of the opcode has the mark
abbrev pub IsMarked : Option (List BuiltInstruction) → Property → ℕ → Type 0
IsMarked told p op = (b : BuiltInstruction) × (instruction_at told op ≡ Some b) × (has_mark p b.marks ≡ true)

-- the opcode has the format of this name
abbrev pub HasFormat : TableContents → List ℕ → ℕ → Type 0
HasFormat tables name op = at_opcode tables.formats op ≡ Some name

-- the mark that a name is, where the instructions are known
abbrev pub mark_named : Option (List BuiltInstruction) → List ℕ → Option Property
mark_named told name = option_and_then (λ _. property_of name) told

-- the names of the opcodes that have the format; `unknown` where no opcode has it
abbrev pub AreOfFormat : TableContents → List ℕ → List ℕ → Type 0
AreOfFormat tables name text = (((op : ℕ) × HasFormat tables name op) × AreNamesOf tables (HasFormat tables name) text)
    ⊎ (((op : ℕ) → HasFormat tables name op → ⊥) × (text ≡ codes "unknown"))

-- those that have the mark, where the name is a mark's, and else those that have the format
abbrev pub AreOfWord : TableContents → Option (List BuiltInstruction) → List ℕ → Option Property → List ℕ → Type 0
AreOfWord tables told name None text = AreOfFormat tables name text
AreOfWord tables told name (Some p) text = AreNamesOf tables (λ op. IsOpcode tables op × IsMarked told p op) text

-- all names, or those of the instructions that have what is named
abbrev pub AreNames : TableContents → Option (List BuiltInstruction) → Option (List ℕ) → List ℕ → Type 0
AreNames tables told None text = AreNamesOf tables (IsOpcode tables) text
AreNames tables told (Some name) text = AreOfWord tables told name (mark_named told name) text

-- ---- lines

-- what is asked by a line of `query`: a question is answered by why, and the others as `query` answers them
abbrev pub IsQueryTold : WholeTables → Option (List BuiltInstruction) → Asked → List ℕ → Type 0
IsQueryTold tables told (OfQuestion q) text = IsWhy tables.opcodes told q text
IsQueryTold tables told (OfInference q) text = (reply : Reply) × GivenReply tables.opcodes q reply × (text ≡ reply_text reply)
IsQueryTold tables told (OfSetting name) text = (reply : Reply) × SettingReply tables name reply × (text ≡ reply_text reply)

-- what is requested
abbrev pub IsRequestTold : TableContents → Option (List BuiltInstruction) → Request → List ℕ → Type 0
IsRequestTold tables told (OfTypes name c) text = AreTypesOf tables name c text
IsRequestTold tables told (OfFind results values) text = AreFound tables results values text
IsRequestTold tables told (OfNames name) text = AreNames tables told name text

-- what answers the line: that of what it asks, and `bad` where it asks nothing
abbrev pub IsExplanation : WholeTables → Option (List BuiltInstruction) → List ℕ → List ℕ → Type 0
IsExplanation tables told line text =
    ((q : Asked) × Asks line q × IsQueryTold tables told q text)
    ⊎ (((r : Request) × Requests line r × IsRequestTold tables.opcodes told r text)
    ⊎ (((q : Asked) → Asks line q → ⊥) × ((r : Request) → Requests line r → ⊥) × (text ≡ codes "bad")))
