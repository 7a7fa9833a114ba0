-- What answers about tables say of the declarations that the tables are of.
--     IsDeclaredAs d tables op entry     the entry is that of the instruction with the number op
--     FindsName d name answer            the answer is the number of the first instruction with the name, or no instruction has it
use Rattle.std.specs.Prelude.{◌≡◌, ◌≢◌, ◌+◌, ℕ, List, Option, None, Some}
use Rattle.meta_lists.specs.First.{IsFirst}
use Rattle.meta_typevar.specs.Variable.{Variable}
use Rattle.meta_inst.specs.Builder.{Builder}
use Rattle.meta_inst.specs.Control.{IsControl}
use Rattle.meta_inst.specs.InstructionSet.{InstructionSet, root_sets, instruction_in_set}
use Rattle.meta_inst.specs.Faults.{IsAt}
use Rattle.meta_inst.specs.Tables.{TableContents, OpcodeNumbers, AreOpcodeNumbersOf}

-- op is the number of a declared instruction, and the entry holds it under its control: its flags, the type sets of its
-- controls and its constraints are those of the declaration
pub record IsDeclaredAs (d : InstructionSet) (tables : TableContents) (op : ℕ) (entry : OpcodeNumbers) : Type 0 where
  pub place : ℕ
  pub builder : Builder
  pub at : IsAt d place builder
  pub number : op ≡ place + 1
  pub control : Option Variable
  pub is_control : IsControl (root_sets d) (instruction_in_set d builder) control
  pub is_entry : AreOpcodeNumbersOf (root_sets d) (instruction_in_set d builder) control tables entry

-- op is the number of a declared instruction that has the name
pub record IsDeclaredNamed (d : InstructionSet) (name : List ℕ) (op : ℕ) : Type 0 where
  pub place : ℕ
  pub builder : Builder
  pub at : IsAt d place builder
  pub number : op ≡ place + 1
  pub named : builder.name ≡ name

-- no declared instruction has the name
abbrev pub IsUndeclared : InstructionSet → List ℕ → Type 0
IsUndeclared d name = (k : ℕ) (b : Builder) → IsAt d k b → b.name ≢ name

-- the answer is the number of the first declared instruction that has the name, or there is no answer and no instruction has it
abbrev pub FindsName : InstructionSet → List ℕ → Option ℕ → Type 0
FindsName d name None = IsUndeclared d name
FindsName d name (Some op) = IsFirst (IsDeclaredNamed d name) op
