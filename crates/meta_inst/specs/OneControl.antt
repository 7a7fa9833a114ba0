-- Control and acceptance as they are said where no second control is named. The definitions for two controls agree with these
-- there.
--     IsControlAlone sets i v                 v controls i, or, for None, i isn't polymorphic
--     AcceptsAlone sets i control c rs vs     what i accepts under this control
use Rattle.std.specs.Prelude.{◌≡◌, ℕ, ◌⊎◌, List, [], ◌++◌, length, slice_get, Option, None, Some}
use Rattle.meta_types.specs.TypeParts.{TypeParts}
use Rattle.meta_typevar.specs.TypeSetParts.{IsMember, HasOne}
use Rattle.meta_typevar.specs.Chain.{Agrees}
use Rattle.meta_typevar.specs.Variable.{Variable, Sets}
use Rattle.meta_inst.specs.Instruction.{Instruction, IsOperand, IsDesignated, IsFirstOutput}
use Rattle.meta_inst.specs.Control.{IsPolymorphic, HasOneEverywhere, IsLoneInput}
use Rattle.meta_inst.specs.Acceptance.{IsChosenControl}

-- v is underived, and it is the root of each operand, or the operand's root has one type alone, or the operand is a lone input
pub record MayControlAlone (sets : Sets) (i : Instruction) (v : Variable) : Type 0 where
  pub underived : v.chain ≡ []
  pub others : (k : ℕ) (w : Variable) → IsOperand i k w → (w.root ≡ v.root) ⊎ HasOne (sets w.root) ⊎ IsLoneInput i k w

-- the designated operand's variable, if there is one, may not control
abbrev pub DesignatesNoneAlone : Sets → Instruction → Type 0
DesignatesNoneAlone sets i = (d : Variable) → IsDesignated i d → MayControlAlone sets i d → ⊥

-- the variable v controls a polymorphic instruction
pub record IsControlledAlone (sets : Sets) (i : Instruction) (v : Variable) : Type 0 where
  pub polymorphic : IsPolymorphic sets i
  pub may : MayControlAlone sets i v
  pub chosen : IsDesignated i v ⊎ (DesignatesNoneAlone sets i × IsFirstOutput i v)

-- the control of an instruction: none where it isn't polymorphic
abbrev pub IsControlAlone : Sets → Instruction → Option Variable → Type 0
IsControlAlone sets i None = HasOneEverywhere sets i
IsControlAlone sets i (Some v) = IsControlledAlone sets i v

-- the instruction with this control accepts the controlling type c, the results rs and the values vs
pub record AcceptsAlone (sets : Sets) (i : Instruction) (control : Option Variable) (c : Option TypeParts)
    (rs vs : List TypeParts) : Type 0 where
  pub results : length rs ≡ length i.results
  pub values : length vs ≡ length i.values
  pub choice : ℕ → TypeParts
  pub members : (k : ℕ) (w : Variable) → IsOperand i k w → IsMember (sets w.root) (choice w.root)
  pub controlled : IsChosenControl choice control c
  pub agrees : (k : ℕ) (w : Variable) (t : TypeParts) → IsOperand i k w → slice_get (rs ++ vs) k ≡ Some t → Agrees w.chain (choice w.root) t
