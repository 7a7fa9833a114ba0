-- Declarations: an instruction set, and groups of settings. Their faults, and the order in which they are looked for.
--     HasFirstFault d e     e is the first fault of the declarations
--     AreValid d            they show none
use Rattle.std.specs.Prelude.{◌≡◌, ◌<◌, ◌⊎◌, ℕ, List, slice_get, Some}
use Rattle.meta_types.specs.declared.fault.DefinitionError.{DefinitionError}
use Rattle.meta_inst.specs.InstructionSet.{InstructionSet}
use Rattle.meta_inst.specs.Faults.{IsFirstFault, IsValid}
use Rattle.meta_settings.specs.GroupDeclaration.{GroupDeclaration}
use Rattle.meta_settings.specs.GroupFaults.{IsFirstGroupFault, IsValidGroup}

-- what is declared: an instruction set, and groups of settings in order
pub record Declared : Type 0 where
  pub set : InstructionSet
  pub groups : List GroupDeclaration

-- no group has a fault
abbrev pub AreValidGroups : List GroupDeclaration → Type 0
AreValidGroups groups = (k : ℕ) (g : GroupDeclaration) → slice_get groups k ≡ Some g → IsValidGroup g

-- e is the first fault of the first group that shows one; a group's number in it is its place, counted from 0
pub record IsFirstOfGroups (groups : List GroupDeclaration) (e : DefinitionError) : Type 0 where
  pub place : ℕ
  pub group : GroupDeclaration
  pub at : slice_get groups place ≡ Some group
  pub first : IsFirstGroupFault group place e
  pub earlier : (k : ℕ) (g : GroupDeclaration) → k < place → slice_get groups k ≡ Some g → IsValidGroup g

-- the first fault of the instruction set, and where it shows none, the first of the groups
abbrev pub HasFirstFault : Declared → DefinitionError → Type 0
HasFirstFault d e = IsFirstFault d.set e ⊎ (IsValid d.set × IsFirstOfGroups d.groups e)

-- neither the instruction set nor a group has a fault
pub record AreValid (d : Declared) : Type 0 where
  pub set : IsValid d.set
  pub groups : AreValidGroups d.groups
