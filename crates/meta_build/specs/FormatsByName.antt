-- The formats in use, sorted by their names.
--     AreFormatsByName d ids        these are the formats that the declared instructions use, each once, by their names
--     AreByName formats used ids    the same of formats that are at hand
use Rattle.std.specs.Prelude.{◌≡◌, ◌<◌, ℕ, List, slice_get, Some}
use Rattle.std.specs.Cmp.Lexicographic.{slice_cmp}
use Rattle.std.specs.Ordering.{nat_cmp}
use Rattle.std.specs.declared.cmp.Ordering.TheVariants.{Less}
use Rattle.meta_operands.specs.declared.format.InstructionFormat.{InstructionFormat}
use Rattle.meta_inst.specs.Builder.{Builder}
use Rattle.meta_inst.specs.InstructionSet.{InstructionSet}
use Rattle.meta_inst.specs.Faults.{IsAt}
use Rattle.meta_build.specs.FormatsUsed.{IsAmong}
use Rattle.meta_build.specs.declared.formats.UsedFormat.{UsedFormat}

-- the name of the format f comes before that of the format g, byte by byte
abbrev pub IsNamedBefore : List InstructionFormat → ℕ → ℕ → Type 0
IsNamedBefore formats f g = (a b : InstructionFormat) → slice_get formats f ≡ Some a → slice_get formats g ≡ Some b
    → slice_cmp nat_cmp a.name b.name ≡ Less

-- an instruction uses the format f
pub record IsInUse (d : InstructionSet) (f : ℕ) : Type 0 where
  pub place : ℕ
  pub user : Builder
  pub at : IsAt d place user
  pub uses : user.format ≡ f

-- each of these is in use, each format in use is one of these, and each one's name comes before those of the later ones, so that
-- none stands there twice
pub record AreFormatsByName (d : InstructionSet) (ids : List ℕ) : Type 0 where
  pub in_use : (k f : ℕ) → slice_get ids k ≡ Some f → IsInUse d f
  pub all : (k : ℕ) (b : Builder) → IsAt d k b → (j : ℕ) × (slice_get ids j ≡ Some b.format)
  pub sorted : (j k f g : ℕ) → j < k → slice_get ids j ≡ Some f → slice_get ids k ≡ Some g → IsNamedBefore d.formats f g

-- the same of these formats of the table
pub record AreByName (formats : List InstructionFormat) (used : List UsedFormat) (ids : List ℕ) : Type 0 where
  pub among : (k f : ℕ) → slice_get ids k ≡ Some f → IsAmong used f
  pub all : (k : ℕ) (g : UsedFormat) → slice_get used k ≡ Some g → (j : ℕ) × (slice_get ids j ≡ Some g.id)
  pub sorted : (j k f g : ℕ) → j < k → slice_get ids j ≡ Some f → slice_get ids k ≡ Some g → IsNamedBefore formats f g
