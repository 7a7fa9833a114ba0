-- A format and those that are used before it.
use Rattle.std.specs.Prelude.{◌≡◌, ◌≢◌, ◌<◌, ℕ, List, slice_get, Some}
use Rattle.meta_operands.specs.Structure.{structure_of}
use Rattle.meta_operands.specs.declared.format.InstructionFormat.{InstructionFormat}
use Rattle.meta_inst.specs.Builder.{Builder}
use Rattle.meta_inst.specs.InstructionSet.{InstructionSet}
use Rattle.meta_inst.specs.Faults.{IsAt, IsFirstUse, SharesFormat}
use Rattle.meta_build.specs.declared.formats.UsedFormat.{UsedFormat}

-- the format is one of these
pub record IsAmong (used : List UsedFormat) (f : ℕ) : Type 0 where
  pub place : ℕ
  pub format : UsedFormat
  pub at : slice_get used place ≡ Some format
  pub is : format.id ≡ f

-- the format isn't among these
abbrev pub IsNotAmong : List UsedFormat → ℕ → Type 0
IsNotAmong used f = (k : ℕ) (format : UsedFormat) → slice_get used k ≡ Some format → format.id ≢ f

-- it is a format of the table, with its structure
pub record IsOfTable (formats : List InstructionFormat) (used : UsedFormat) : Type 0 where
  pub format : InstructionFormat
  pub at : slice_get formats used.id ≡ Some format
  pub structure : used.structure ≡ structure_of format

-- each of these is
abbrev pub AreOfTable : List InstructionFormat → List UsedFormat → Type 0
AreOfTable formats used = (k : ℕ) (format : UsedFormat) → slice_get used k ≡ Some format → IsOfTable formats format

-- two formats of the table that can't both be in use
pub record ClashIn (formats : List InstructionFormat) (f g : ℕ) : Type 0 where
  pub one : InstructionFormat
  pub other : InstructionFormat
  pub is_one : slice_get formats f ≡ Some one
  pub is_other : slice_get formats g ≡ Some other
  pub shares : SharesFormat one other

-- f can stand beside each of these
abbrev pub ClashesWithNone : List InstructionFormat → List UsedFormat → ℕ → Type 0
ClashesWithNone formats used f = (k : ℕ) (format : UsedFormat) → slice_get used k ≡ Some format → ClashIn formats f format.id → ⊥

-- g is the first of these that f can't stand beside
pub record IsFirstToClash (formats : List InstructionFormat) (used : List UsedFormat) (f g : ℕ) : Type 0 where
  pub place : ℕ
  pub format : UsedFormat
  pub at : slice_get used place ≡ Some format
  pub is : format.id ≡ g
  pub clashes : ClashIn formats f g
  pub first : (i : ℕ) (other : UsedFormat) → i < place → slice_get used i ≡ Some other → ClashIn formats f other.id → ⊥

-- the format f is used before place k
pub record IsUsedBefore (d : InstructionSet) (k f : ℕ) : Type 0 where
  pub place : ℕ
  pub before : place < k
  pub first_use : IsFirstUse d f place

-- these are the formats that are used before place k, in the order of their first uses
pub record AreUsedBefore (d : InstructionSet) (k : ℕ) (used : List UsedFormat) : Type 0 where
  pub uses : (j : ℕ) (f : UsedFormat) → slice_get used j ≡ Some f → IsUsedBefore d k f.id
  pub all : (i : ℕ) (b : Builder) → i < k → IsAt d i b → IsAmong used b.format
  pub in_order : (i j : ℕ) (f g : UsedFormat) (p q : ℕ) → i < j → slice_get used i ≡ Some f → slice_get used j ≡ Some g
      → IsFirstUse d f.id p → IsFirstUse d g.id q → p < q

-- no two of these clash
abbrev pub AreApart : List InstructionFormat → List UsedFormat → Type 0
AreApart formats used = (i j : ℕ) (f g : UsedFormat) → i < j → slice_get used i ≡ Some f → slice_get used j ≡ Some g
    → ClashIn formats g.id f.id → ⊥
