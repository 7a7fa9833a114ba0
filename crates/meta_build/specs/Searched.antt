-- What the parts of the search for the first fault find.
use Rattle.std.specs.Prelude.{◌≡◌, ◌+◌, ◌⊎◌, ℕ, List, Result, Err}
use Rattle.meta_types.specs.FirstFault.{HasNoneBefore}
use Rattle.meta_types.specs.declared.fault.DefinitionError.{DefinitionError}
use Rattle.meta_types.specs.SharedNames.{IsDuplicate}
use Rattle.meta_types.specs.declared.fault.Place.{Place}
use Rattle.meta_types.specs.declared.fault.Place.TheVariants.{Instruction}
use Rattle.meta_types.specs.declared.fault.DefinitionError.TheVariants.{BadName, DuplicateName, OutOfMemory}
use Rattle.meta_inst.specs.Builder.{Builder}
use Rattle.meta_inst.specs.Built.{BuiltInstruction}
use Rattle.meta_inst.specs.InstructionSet.{InstructionSet}
use Rattle.meta_inst.specs.Faults.{IsAt, FormatNameRule, OfFormat, Position, position_key, names_of, HasFaultAt}
use Rattle.meta_build.specs.declared.formats.UsedFormat.{UsedFormat}
use Rattle.meta_build.specs.FormatsUsed.{AreUsedBefore, IsNotAmong}

-- the declarations have no fault before the position
abbrev pub IsCleanBefore : InstructionSet → Position → Type 0
IsCleanBefore d p = HasNoneBefore position_key (HasFaultAt d) (position_key p)

-- building was refused by what comes before clashes of names: a bad name, or memory that ran out
abbrev pub IsRefusedFirst : Result BuiltInstruction DefinitionError → Type 0
IsRefusedFirst built = ((p : Place) × (built ≡ Err (BadName p))) ⊎ (built ≡ Err OutOfMemory)

-- the name of the instruction at place k is shared by no earlier one
abbrev pub IsUnshared : InstructionSet → ℕ → Type 0
IsUnshared d k = (j : ℕ) → IsDuplicate (names_of d) k j → ⊥

-- the fault says that it is shared by an earlier one, and by which first
pub record IsSharedName (d : InstructionSet) (k : ℕ) (e : DefinitionError) : Type 0 where
  pub earlier : ℕ
  pub duplicate : IsDuplicate (names_of d) k earlier
  pub tells : e ≡ DuplicateName (Instruction (k + 1)) (earlier + 1)

-- the instruction at place k uses the format f, which isn't among those that are used before, and no fault is shown before it
pub record IsNextUse (d : InstructionSet) (k : ℕ) (used : List UsedFormat) (f : ℕ) : Type 0 where
  pub user : Builder
  pub at : IsAt d k user
  pub uses : user.format ≡ f
  pub before : AreUsedBefore d k used
  pub new : IsNotAmong used f
  pub clean : IsCleanBefore d (OfFormat k FormatNameRule)
