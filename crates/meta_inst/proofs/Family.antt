-- The controls of an instruction as a family. One choice of types splits into one test an operand wherever four facts hold of
-- the controls, in whatever way they were found.
--     Ruling sets i controls         the four facts
use Rattle.std.proofs.Common.{◌≡◌, ℕ, ◌⊎◌, List, [], Option, Some, slice_get}
use Rattle.meta_types.specs.TypeParts.{TypeParts}
use Rattle.meta_typevar.specs.TypeSetParts.{IsMember, HasOne}
use Rattle.meta_typevar.specs.Chain.{Agrees}
use Rattle.meta_typevar.specs.Variable.{Variable, Sets}
use Rattle.meta_inst.specs.Which.{Which}
use Rattle.meta_inst.specs.Instruction.{Instruction, IsOperand}
use Rattle.meta_inst.specs.Control.{IsLoneInput}
use Rattle.meta_inst.specs.Acceptance.{IsChosenControl}
use Rattle.meta_inst.specs.Constraint.{ControlFits}

-- control a is there, and w has its root
pub record IsUnder (controls : Which → Option Variable) (w : Variable) (a : Which) : Type 0 where
  pub variable : Variable
  pub controls_is : controls a ≡ Some variable
  pub root : w.root ≡ variable.root

-- w has the root of some control
abbrev pub IsControlled : (Which → Option Variable) → Variable → Type 0
IsControlled controls w = (a : Which) × IsUnder controls w a

-- some operand has the root of v
pub record IsUsed (i : Instruction) (v : Variable) : Type 0 where
  pub place : ℕ
  pub variable : Variable
  pub operand : IsOperand i place variable
  pub root : variable.root ≡ v.root

-- the operand w at place k has the root of a control; or it has not, and its root has one type alone or it is a lone input
abbrev pub IsSettled : Sets → Instruction → (Which → Option Variable) → ℕ → Variable → Type 0
IsSettled sets i controls k w = IsControlled controls w ⊎ ((IsControlled controls w → ⊥) × (HasOne (sets w.root) ⊎ IsLoneInput i k w))

-- What the split asks of the controls: each is underived, two with one root are one, the root of each is used, and each
-- operand is settled.
pub record Ruling (sets : Sets) (i : Instruction) (controls : Which → Option Variable) : Type 0 where
  pub underived : (a : Which) (v : Variable) → controls a ≡ Some v → v.chain ≡ []
  pub one : (a b : Which) (u v : Variable) → controls a ≡ Some u → controls b ≡ Some v → u.root ≡ v.root → a ≡ b
  pub used : (a : Which) (v : Variable) → controls a ≡ Some v → IsUsed i v
  pub settled : (k : ℕ) (w : Variable) → IsOperand i k w → IsSettled sets i controls k w

-- each controlling type fits its control
abbrev pub AllFit : Sets → (Which → Option Variable) → (Which → Option TypeParts) → Type 0
AllFit sets controls c = (a : Which) → ControlFits sets (controls a) (c a)

-- one choice of a type for every root at once, for the controlling types c and the types ts of the operands
pub record IsChoice (sets : Sets) (i : Instruction) (controls : Which → Option Variable)
    (c : Which → Option TypeParts) (ts : List TypeParts) (choice : ℕ → TypeParts) : Type 0 where
  pub members : (k : ℕ) (w : Variable) → IsOperand i k w → IsMember (sets w.root) (choice w.root)
  pub controlled : (a : Which) → IsChosenControl choice (controls a) (c a)
  pub agrees : (k : ℕ) (w : Variable) (t : TypeParts) → IsOperand i k w → slice_get ts k ≡ Some t → Agrees w.chain (choice w.root) t
