-- The type sets that tables need, as masks.
--     AreSetsByNeed d sets      the needed sets, in the order in which they are first needed
--     AreNeededMasks d masks    their masks
use Rattle.std.specs.Prelude.{◌≡◌, ◌<◌, ◌⊎◌, ℕ, zero, suc, List, length, slice_get, Option, Some}
use Rattle.meta_typevar.specs.TypeSetParts.{TypeSetParts}
use Rattle.meta_typevar.specs.Masks.{AreMasksOf}
use Rattle.meta_typevar.specs.declared.masks.Masks.{Masks}
use Rattle.meta_inst.specs.Builder.{Builder}
use Rattle.meta_typevar.specs.Variable.{Variable, Sets}
use Rattle.meta_inst.specs.Which.{First, Second}
use Rattle.meta_inst.specs.Instruction.{Instruction, controls_of}
use Rattle.meta_inst.specs.Control.{IsControl}
use Rattle.meta_inst.specs.InstructionSet.{InstructionSet, root_sets, instruction_in_set}
use Rattle.meta_inst.specs.Faults.{IsAt, IsControlSet, IsFreeSet, AreNeededSets}

-- the masks are those of the sets, place by place
pub record StandForSets (masks : List Masks) (sets : List TypeSetParts) : Type 0 where
  pub count : length masks ≡ length sets
  pub each : (k : ℕ) (s : TypeSetParts) → slice_get sets k ≡ Some s → (m : Masks) × (slice_get masks k ≡ Some m) × AreMasksOf s m

-- at this place of its needs the instruction needs the set under this control: at 0 as the set of the control, at 1 as that of its
-- second control, and at k + 2 as that of operand k, where it is free
abbrev pub NeedsUnder : Sets → Instruction → Option Variable → ℕ → TypeSetParts → Type 0
NeedsUnder sets i control zero s = IsControlSet sets (controls_of i control) First s
NeedsUnder sets i control (suc zero) s = IsControlSet sets (controls_of i control) Second s
NeedsUnder sets i control (suc (suc k)) s = (free : IsFreeSet sets i control s) × (free.place ≡ k)

-- the instruction needs the set at this place of its needs, under its control
pub record NeedsAtPlace (sets : Sets) (i : Instruction) (place : ℕ) (s : TypeSetParts) : Type 0 where
  pub control : Option Variable
  pub is_control : IsControl sets i control
  pub needs : NeedsUnder sets i control place s

-- the declared instruction with the number k needs the set, at this place of its needs
pub record NeedsInOrder (d : InstructionSet) (k place : ℕ) (s : TypeSetParts) : Type 0 where
  pub user : Builder
  pub at : IsAt d k user
  pub needs : NeedsAtPlace (root_sets d) (instruction_in_set d user) place s

-- a need comes before another one: it is of an earlier instruction, or of the same at an earlier place
abbrev pub ComesBefore : ℕ → ℕ → ℕ → ℕ → Type 0
ComesBefore k place l other = (k < l) ⊎ ((k ≡ l) × (place < other))

-- s is needed before t is: some need of s comes before each need of t
pub record IsNeededBefore (d : InstructionSet) (s t : TypeSetParts) : Type 0 where
  pub instruction : ℕ
  pub place : ℕ
  pub needs : NeedsInOrder d instruction place s
  pub first : (l other : ℕ) → NeedsInOrder d l other t → ComesBefore instruction place l other

-- the sets are those that the instructions need, each once, in the order in which they are first needed
pub record AreSetsByNeed (d : InstructionSet) (sets : List TypeSetParts) : Type 0 where
  pub are_needed : AreNeededSets d sets
  pub ordered : (j k : ℕ) (s t : TypeSetParts) → j < k → slice_get sets j ≡ Some s → slice_get sets k ≡ Some t → IsNeededBefore d s t

-- the masks are those of the sets that the instructions need, each once, in the order in which they are first needed
pub record AreNeededMasks (d : InstructionSet) (masks : List Masks) : Type 0 where
  pub sets : List TypeSetParts
  pub are_needed : AreSetsByNeed d sets
  pub stand : StandForSets masks sets
