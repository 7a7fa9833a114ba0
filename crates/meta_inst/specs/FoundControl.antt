-- What was found of an instruction's control.
use Rattle.std.specs.Prelude.{◌≡◌, ◌⊎◌, ℕ, ◌<◌, List, ◌++◌, length, Option, None, Some, option_map, slice_get}
use Rattle.meta_typevar.specs.Variable.{Variable}
use Rattle.meta_typevar.specs.Registry.{sets_of, variable_at}
use Rattle.meta_typevar.specs.declared.content.TypeVarContent.{TypeVarContent}
use Rattle.meta_inst.specs.Instruction.{Instruction}
use Rattle.meta_operands.specs.Operand.{variables_of}
use Rattle.meta_operands.specs.declared.format.InstructionFormat.{InstructionFormat}
use Rattle.meta_inst.specs.Builder.{Builder, inputs_of, outputs_of}
use Rattle.meta_inst.specs.InstructionSet.{instruction_of_builder}
use Rattle.meta_inst.specs.Operands.{OperandList, AreOf, instruction_of_operands, CanControl, HasSeveralTypes, AllHaveOneType}
use Rattle.meta_inst.specs.Which.{Which}
use Rattle.meta_inst.specs.Controls.{controls_at}
use Rattle.meta_inst.specs.Control.{HasOneEverywhere, IsControlledBy, HasNoControl, IsBadlyDerived}
use Rattle.meta_inst.specs.declared.operands.Controlling.{Controlling}
use Rattle.meta_inst.specs.declared.operands.Controlling.TheVariants.{NotPolymorphic, By, Missing}

-- the number of the control that was found, and the control
abbrev pub control_number : Controlling → Option ℕ
control_number NotPolymorphic = None
control_number (By v) = Some v
control_number Missing = None

abbrev pub control_in : List TypeVarContent → Controlling → Option Variable
control_in vars control = option_map (variable_at vars) (control_number control)

-- the instruction isn't polymorphic, or this variable controls it, or nothing does and that is a fault
abbrev pub IsFound : List TypeVarContent → Instruction → Controlling → Type 0
IsFound vars i NotPolymorphic = HasOneEverywhere (sets_of vars) i
IsFound vars i (By v) = IsControlledBy (sets_of vars) i (variable_at vars v)
IsFound vars i Missing = HasNoControl (sets_of vars) i

-- the candidate, if there is one, may not control
abbrev pub MayNot : List TypeVarContent → Option ℕ → List ℕ → ℕ → Option ℕ → Type 0
MayNot vars second numbers from candidate = (v : ℕ) → candidate ≡ Some v → CanControl vars second numbers from v → ⊥

-- the variable v may control, and it is the designated one, or that may not and it is the first
pub record IsChosen (vars : List TypeVarContent) (second : Option ℕ) (numbers : List ℕ) (from : ℕ) (designated first : Option ℕ) (v : ℕ) :
    Type 0 where
  pub several : HasSeveralTypes vars numbers
  pub may : CanControl vars second numbers from v
  pub chosen : (designated ≡ Some v) ⊎ (MayNot vars second numbers from designated × (first ≡ Some v))

-- there are several types, and neither the designated variable nor the first may control
pub record IsMissing (vars : List TypeVarContent) (second : Option ℕ) (numbers : List ℕ) (from : ℕ) (designated first : Option ℕ) :
    Type 0 where
  pub several : HasSeveralTypes vars numbers
  pub designated_may_not : MayNot vars second numbers from designated
  pub first_may_not : MayNot vars second numbers from first

-- what was found, by the numbers of the variables
abbrev pub IsFoundIn : List TypeVarContent → Option ℕ → List ℕ → ℕ → Option ℕ → Option ℕ → Controlling → Type 0
IsFoundIn vars second numbers from designated first NotPolymorphic = AllHaveOneType vars numbers
IsFoundIn vars second numbers from designated first (By v) = IsChosen vars second numbers from designated first v
IsFoundIn vars second numbers from designated first Missing = IsMissing vars second numbers from designated first

-- the variable at the place is badly derived under the controls
pub record IsBadAt (vars : List TypeVarContent) (controls : Which → Option ℕ) (numbers : List ℕ) (place : ℕ) : Type 0 where
  pub number : ℕ
  pub at : slice_get numbers place ≡ Some number
  pub bad : IsBadlyDerived (sets_of vars) (controls_at vars controls) (variable_at vars number)

-- and none before it is
pub record IsFirstBadAt (vars : List TypeVarContent) (controls : Which → Option ℕ) (numbers : List ℕ) (place : ℕ) : Type 0 where
  pub bad : IsBadAt vars controls numbers place
  pub first : (j : ℕ) → j < place → IsBadAt vars controls numbers j → ⊥

-- the control, if a variable controls, is of the registry
abbrev pub IsOf : List TypeVarContent → Controlling → Type 0
IsOf vars control = (v : ℕ) → control ≡ By v → v < length vars

-- o are the value operands of the declared instruction b
pub record AreOperandsOf (vars : List TypeVarContent) (formats : List InstructionFormat) (b : Builder) (o : OperandList) : Type 0 where
  pub meaning : instruction_of_operands vars o ≡ instruction_of_builder vars formats b
  pub variables : o.variables ≡ variables_of (outputs_of b) ++ variables_of (inputs_of b)
  pub result_count : o.result_count ≡ length (variables_of (outputs_of b))
  pub of_registry : AreOf vars o.variables
  pub second : o.second ≡ b.second
