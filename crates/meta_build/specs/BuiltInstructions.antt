-- What is built of declared instructions.
--     IsInstructionOf d b c         c is what is built of the declared instruction b
--     AreInstructionsOf d built     these are built of the declared instructions, in order
use Rattle.std.specs.Prelude.{◌≡◌, ℕ, List, length, slice_get, Some}
use Rattle.meta_inst.specs.Builder.{Builder}
use Rattle.meta_inst.specs.Built.{BuiltInstruction}
use Rattle.meta_inst.specs.Content.{content_of, IsPolymorphicInfoOf}
use Rattle.meta_inst.specs.InstructionSet.{InstructionSet}
use Rattle.meta_inst.specs.Faults.{IsAt}

-- the built instruction has what was declared, with its value operands and its control
pub record IsInstructionOf (d : InstructionSet) (b : Builder) (c : BuiltInstruction) : Type 0 where
  pub content : c ≡ content_of d.formats b c.polymorphic_info
  pub control : IsPolymorphicInfoOf d.vars d.formats b c.polymorphic_info

-- it is built of the declared instruction at the place
pub record IsBuiltAt (d : InstructionSet) (place : ℕ) (c : BuiltInstruction) : Type 0 where
  pub builder : Builder
  pub at : IsAt d place builder
  pub is : IsInstructionOf d builder c

-- there is one built instruction for each declared one, in order
pub record AreInstructionsOf (d : InstructionSet) (built : List BuiltInstruction) : Type 0 where
  pub count : length built ≡ length d.instructions
  pub each : (k : ℕ) (c : BuiltInstruction) → slice_get built k ≡ Some c → IsBuiltAt d k c
