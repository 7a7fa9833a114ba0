-- The replies to what is asked, and which is that to the question whether an instruction accepts types.
--     AllowedReply tables q reply      the reply of tables, by the decoding
--     AcceptedReply d q reply          the reply of declarations, as they mean
use Rattle.std.specs.Prelude.{◌≡◌, ◌≢◌, ℕ, List, map, Option, Some, codes}
use Rattle.std.specs.Option.{option_map}
use Rattle.meta_lists.specs.First.{IsFirst}
use Rattle.meta_types.specs.TypeParts.{number_of}
use Rattle.meta_typevar.specs.Variable.{Variable}
use Rattle.meta_inst.specs.Builder.{Builder}
use Rattle.meta_inst.specs.Control.{IsControl}
use Rattle.meta_inst.specs.InstructionSet.{InstructionSet, root_sets, instruction_in_set}
use Rattle.meta_inst.specs.Faults.{IsAt}
use Rattle.meta_inst.specs.Acceptance.{Accepts}
use Rattle.meta_inst.specs.Tables.{TableContents, at_opcode, Allows}
use Rattle.meta_gen.specs.Contents.{IsOpcodeNamed}
use Rattle.meta_gen.specs.Question.{Question}
use Rattle.meta_gen.specs.declared.reply.Reply.{Reply}
use Rattle.meta_gen.specs.declared.reply.Reply.TheVariants.{Accept, Refuse, Unknown, Bad, Results, Setting}

-- a reply as it is written
abbrev pub reply_text : Reply → List ℕ
reply_text Accept = codes "accept"
reply_text Refuse = codes "refuse"
reply_text Unknown = codes "unknown"
reply_text Bad = codes "bad"
reply_text (Results line) = line
reply_text (Setting line) = line

-- ---- by tables

-- the tables allow, for the opcode, the numbers of the types that are asked
abbrev pub AllowsAsked : TableContents → ℕ → Question → Type 0
AllowsAsked tables op q = Allows tables op (option_map number_of q.control) (option_map number_of q.second) (map number_of q.results)
    (map number_of q.values)

-- whether the decoding allows, for the opcode that has the name, what is asked; `unknown` where no opcode has it
abbrev pub AllowedReply : TableContents → Question → Reply → Type 0
AllowedReply tables q Accept = (op : ℕ) × IsFirst (IsOpcodeNamed tables.names q.name) op × AllowsAsked tables op q
AllowedReply tables q Refuse = (op : ℕ) × IsFirst (IsOpcodeNamed tables.names q.name) op × (AllowsAsked tables op q → ⊥)
AllowedReply tables q Unknown = (op : ℕ) → at_opcode tables.names op ≢ Some q.name
AllowedReply tables q Bad = ⊥
AllowedReply tables q (Results line) = ⊥
AllowedReply tables q (Setting line) = ⊥

-- ---- as the declarations mean

-- the instruction accepts the types that are asked: one choice of types for all its roots fits them
pub record AcceptsAsked (d : InstructionSet) (b : Builder) (q : Question) : Type 0 where
  pub control : Option Variable
  pub is_control : IsControl (root_sets d) (instruction_in_set d b) control
  pub accepts : Accepts (root_sets d) (instruction_in_set d b) control q.control q.second q.results q.values

-- the instruction is declared, and has the name that is asked for
pub record IsAskedFor (d : InstructionSet) (name : List ℕ) (b : Builder) : Type 0 where
  pub place : ℕ
  pub at : IsAt d place b
  pub named : b.name ≡ name

-- whether the instruction that has the name accepts what is asked; `unknown` where no instruction has it
abbrev pub AcceptedReply : InstructionSet → Question → Reply → Type 0
AcceptedReply d q Accept = (b : Builder) × IsAskedFor d q.name b × AcceptsAsked d b q
AcceptedReply d q Refuse = (b : Builder) × IsAskedFor d q.name b × (AcceptsAsked d b q → ⊥)
AcceptedReply d q Unknown = (k : ℕ) (b : Builder) → IsAt d k b → b.name ≢ q.name
AcceptedReply d q Bad = ⊥
AcceptedReply d q (Results line) = ⊥
AcceptedReply d q (Setting line) = ⊥
