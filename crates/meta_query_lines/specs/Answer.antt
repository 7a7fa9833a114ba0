-- The answers to the lines of an input.
--     IsTableReply tables line reply     the reply of tables, read by the decoding
--     IsReply d line reply               the reply of declarations, as they mean
--     AreWrittenAnswers R lines out      out is the answers of the lines in order, each with LF
--     IsOutput d input out               out answers the whole input as the declarations mean
use Rattle.std.specs.Prelude.{◌≡◌, ◌≢◌, ℕ, List, [], ◌∷◌, ◌++◌, ◌⊎◌, slice_get, Option, None, Some}
use Rattle.std.specs.Option.{option_map}
use Rattle.meta_lists.specs.First.{IsFirst}
use Rattle.meta_types.specs.TypeParts.{number_of}
use Rattle.meta_typevar.specs.Variable.{Variable}
use Rattle.meta_inst.specs.Builder.{Builder}
use Rattle.meta_inst.specs.Control.{IsControl}
use Rattle.meta_inst.specs.InstructionSet.{InstructionSet, root_sets, instruction_in_set}
use Rattle.meta_inst.specs.Faults.{IsAt}
use Rattle.meta_inst.specs.Inference.{Infers, GivesResults}
use Rattle.meta_inst.specs.Tables.{TableContents, at_opcode}
use Rattle.meta_settings.specs.GroupDeclaration.{GroupDeclaration}
use Rattle.meta_settings.specs.LaidOut.{built_of}
use Rattle.meta_setting_tables.specs.declared.descriptor.Descriptor.{Descriptor}
use Rattle.meta_gen.specs.Contents.{IsOpcodeNamed}
use Rattle.meta_setting_tables.specs.FoundSetting.{entry_names, FindsEntry}
use Rattle.meta_setting_tables.specs.GroupTables.{GroupContents, names_in}
use Rattle.meta_build.specs.AllDeclared.{Declared}
use Rattle.meta_gen.specs.WholeTables.{WholeTables}
use Rattle.meta_lines.specs.Lines.{lines_of}
use Rattle.meta_query_lines.specs.Inference.{Inference, IsResultsLine}
use Rattle.meta_query_lines.specs.Query.{Asked, OfQuestion, OfInference, OfSetting, Asks}
use Rattle.meta_query_lines.specs.SettingLine.{entry_lines, line_in}
use Rattle.meta_gen.specs.Reply.{reply_text, AllowedReply, IsAskedFor, AcceptedReply}
use Rattle.meta_gen.specs.declared.reply.Reply.{Reply}
use Rattle.meta_gen.specs.declared.reply.Reply.TheVariants.{Accept, Refuse, Unknown, Bad, Results, Setting}

-- The reply to a line, where R says what is replied to what is asked: that of what the line asks, and `bad` where it asks nothing.
abbrev pub IsReplyBy : (Asked → Reply → Type 0) → List ℕ → Reply → Type 0
IsReplyBy R line reply =
    ((q : Asked) × Asks line q × R q reply)
    ⊎ ((reply ≡ Bad) × ((q : Asked) → Asks line q → ⊥))

-- ---- by tables

-- the numbers are what the tables give for the results of the opcode, of the numbers of the types that are asked
abbrev pub GivesAsked : TableContents → ℕ → Inference → List ℕ → Type 0
GivesAsked tables op q numbers = GivesResults tables op (option_map number_of q.control) (option_map number_of q.second) numbers

-- the line of the results that the tables give for the opcode that has the name; `refuse` where they give none; `unknown` where no
-- opcode has the name
abbrev pub GivenReply : TableContents → Inference → Reply → Type 0
GivenReply tables q Accept = ⊥
GivenReply tables q Refuse = (op : ℕ) × IsFirst (IsOpcodeNamed tables.names q.name) op
    × ((numbers : List ℕ) → GivesAsked tables op q numbers → ⊥)
GivenReply tables q Unknown = (op : ℕ) → at_opcode tables.names op ≢ Some q.name
GivenReply tables q Bad = ⊥
GivenReply tables q (Results line) = (op : ℕ) × IsFirst (IsOpcodeNamed tables.names q.name) op × (numbers : List ℕ)
    × GivesAsked tables op q numbers × IsResultsLine numbers line
GivenReply tables q (Setting line) = ⊥

-- the text is the line of the entry of group 0 that has the name, by its tables
pub record IsLineInTables (tables : WholeTables) (name line : List ℕ) : Type 0 where
  pub group : GroupContents
  pub group_is : slice_get tables.groups 0 ≡ Some group
  pub entry : ℕ
  pub named : FindsEntry (names_in group.descriptors) name (Some entry)
  pub descriptor : Descriptor
  pub there : slice_get group.descriptors entry ≡ Some descriptor
  pub line_is : line ≡ line_in group descriptor

-- the line of the entry of group 0 that has the name; `unknown` where no entry has it, or there is no such group
abbrev pub SettingReply : WholeTables → List ℕ → Reply → Type 0
SettingReply tables name Accept = ⊥
SettingReply tables name Refuse = ⊥
SettingReply tables name Unknown = (g : GroupContents) → slice_get tables.groups 0 ≡ Some g → (e : ℕ)
    → slice_get (names_in g.descriptors) e ≢ Some name
SettingReply tables name Bad = ⊥
SettingReply tables name (Results line) = ⊥
SettingReply tables name (Setting line) = IsLineInTables tables name line

-- what tables reply to what is asked
abbrev pub TablesReply : WholeTables → Asked → Reply → Type 0
TablesReply tables (OfQuestion q) reply = AllowedReply tables.opcodes q reply
TablesReply tables (OfInference q) reply = GivenReply tables.opcodes q reply
TablesReply tables (OfSetting name) reply = SettingReply tables name reply

-- the reply to a line by tables alone
abbrev pub IsTableReply : WholeTables → List ℕ → Reply → Type 0
IsTableReply tables line reply = IsReplyBy (TablesReply tables) line reply

-- ---- as the declarations mean

-- of the controlling types that are asked the instruction infers these numbers of its results
pub record InfersAsked (d : InstructionSet) (b : Builder) (q : Inference) (numbers : List ℕ) : Type 0 where
  pub control : Option Variable
  pub is_control : IsControl (root_sets d) (instruction_in_set d b) control
  pub infers : Infers (root_sets d) (instruction_in_set d b) control q.control q.second numbers

-- the line of the results that the instruction of the name infers; `refuse` where it infers none; `unknown` where no instruction has
-- the name
abbrev pub InferredReply : InstructionSet → Inference → Reply → Type 0
InferredReply d q Accept = ⊥
InferredReply d q Refuse = (b : Builder) × IsAskedFor d q.name b × ((numbers : List ℕ) → InfersAsked d b q numbers → ⊥)
InferredReply d q Unknown = (k : ℕ) (b : Builder) → IsAt d k b → b.name ≢ q.name
InferredReply d q Bad = ⊥
InferredReply d q (Results line) = (b : Builder) × IsAskedFor d q.name b × (numbers : List ℕ) × InfersAsked d b q numbers
    × IsResultsLine numbers line
InferredReply d q (Setting line) = ⊥

-- the text is the line of the entry of group 0 that has the name
pub record IsLineOfEntry (groups : List GroupDeclaration) (name line : List ℕ) : Type 0 where
  pub group : GroupDeclaration
  pub group_is : slice_get groups 0 ≡ Some group
  pub entry : ℕ
  pub named : slice_get (entry_names (built_of group)) entry ≡ Some name
  pub line_is : slice_get (entry_lines (built_of group)) entry ≡ Some line

-- the line of the entry of group 0 that has the name; `unknown` where no entry has it, or there is no such group
abbrev pub EntryReply : List GroupDeclaration → List ℕ → Reply → Type 0
EntryReply groups name Accept = ⊥
EntryReply groups name Refuse = ⊥
EntryReply groups name Unknown = (g : GroupDeclaration) → slice_get groups 0 ≡ Some g → (e : ℕ)
    → slice_get (entry_names (built_of g)) e ≢ Some name
EntryReply groups name Bad = ⊥
EntryReply groups name (Results line) = ⊥
EntryReply groups name (Setting line) = IsLineOfEntry groups name line

-- what declarations reply to what is asked
abbrev pub DeclaredReply : Declared → Asked → Reply → Type 0
DeclaredReply d (OfQuestion q) reply = AcceptedReply d.set q reply
DeclaredReply d (OfInference q) reply = InferredReply d.set q reply
DeclaredReply d (OfSetting name) reply = EntryReply d.groups name reply

-- the reply to a line as the declarations mean
abbrev pub IsReply : Declared → List ℕ → Reply → Type 0
IsReply d line reply = IsReplyBy (DeclaredReply d) line reply

-- ---- the answers of lines

-- a reply as it stands in the output: its text and LF
abbrev pub reply_line : Reply → List ℕ
reply_line reply = reply_text reply ++ 10 ∷ []

-- what a line is answered with: nothing where it is empty, and else its reply's line
abbrev pub IsWrittenAnswer : (List ℕ → Reply → Type 0) → List ℕ → List ℕ → Type 0
IsWrittenAnswer R [] text = text ≡ []
IsWrittenAnswer R (c ∷ cs) text = (reply : Reply) × R (c ∷ cs) reply × (text ≡ reply_line reply)

-- the answers of the lines, in order
abbrev pub AreWrittenAnswers : (List ℕ → Reply → Type 0) → List (List ℕ) → List ℕ → Type 0
AreWrittenAnswers R [] out = out ≡ []
AreWrittenAnswers R (line ∷ lines) out = (first : List ℕ) × (rest : List ℕ) × IsWrittenAnswer R line first × AreWrittenAnswers R lines rest
    × (out ≡ first ++ rest)

-- the output for an input: the answers of its lines, as the declarations mean
abbrev pub IsOutput : Declared → List ℕ → List ℕ → Type 0
IsOutput d input out = AreWrittenAnswers (IsReply d) (lines_of input) out

-- what answers one line: none where it is empty, and else the text of its reply
abbrev pub IsLineAnswer : (List ℕ → Reply → Type 0) → List ℕ → Option (List ℕ) → Type 0
IsLineAnswer R [] answer = answer ≡ None
IsLineAnswer R (c ∷ cs) answer = (reply : Reply) × R (c ∷ cs) reply × (answer ≡ Some (reply_text reply))
