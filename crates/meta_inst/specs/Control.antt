-- Which variable of an instruction controls.
--     IsPolymorphic sets i      some operand's root can have other types than one
--     MayControl sets i v       v may control
--     IsControl sets i v        v controls i, or, for None, i isn't polymorphic
--     HasNoControl sets i       i is polymorphic and nothing controls it
--     HasBadSecond sets i       i names a second control that can't be one
--     HasBadDerivation sets i control k      the operand at place k is derived in a way that no constraint says
--     DerivesBadly sets i place              the first such operand, under the control of i, is the one at the place
use Rattle.std.specs.Prelude.{◌≡◌, ◌≢◌, ℕ, ◌<◌, ◌≤◌, ◌⊎◌, [], length, Option, None, Some}
use Rattle.meta_typevar.specs.TypeSetParts.{HasOne}
use Rattle.meta_types.specs.Function.{Function}
use Rattle.meta_typevar.specs.Variable.{Variable, Sets, underived, IsDerivedBy, IsOpen}
use Rattle.meta_inst.specs.Which.{Which}
use Rattle.meta_inst.specs.Instruction.{Instruction, IsOperand, IsDesignated, IsFirstOutput, controls_of}

-- some operand's root has a set that hasn't exactly one type
pub record IsPolymorphic (sets : Sets) (i : Instruction) : Type 0 where
  pub place : ℕ
  pub variable : Variable
  pub operand : IsOperand i place variable
  pub several : HasOne (sets variable.root) → ⊥

-- the set of each operand's root has exactly one type: i isn't polymorphic
abbrev pub HasOneEverywhere : Sets → Instruction → Type 0
HasOneEverywhere sets i = (k : ℕ) (w : Variable) → IsOperand i k w → HasOne (sets w.root)

-- the operand w at place k is a value input, is underived, and stands at no other value input
pub record IsLoneInput (i : Instruction) (k : ℕ) (w : Variable) : Type 0 where
  pub underived : w.chain ≡ []
  pub is_input : length i.results ≤ k
  pub alone : (j : ℕ) → length i.results ≤ j → IsOperand i j w → j ≡ k

-- the root of w is the second control
abbrev pub HasSecondRoot : Instruction → Variable → Type 0
HasSecondRoot i w = i.second ≡ Some (underived w.root)

-- what lets another variable control beside the operand w at place k: it is w's root, or the second control is, or w's root
-- has one type alone, or w is a lone input
abbrev pub IsRuled : Sets → Instruction → Variable → ℕ → Variable → Type 0
IsRuled sets i v k w = (w.root ≡ v.root) ⊎ HasSecondRoot i w ⊎ HasOne (sets w.root) ⊎ IsLoneInput i k w

-- v is underived and isn't the second control, and each operand is ruled by it or by the second control, is of a root that has one
-- type, or is a lone input
pub record MayControl (sets : Sets) (i : Instruction) (v : Variable) : Type 0 where
  pub underived : v.chain ≡ []
  pub not_second : i.second ≢ Some v
  pub others : (k : ℕ) (w : Variable) → IsOperand i k w → IsRuled sets i v k w

-- the designated operand's variable, if there is one, may not control
abbrev pub DesignatesNone : Sets → Instruction → Type 0
DesignatesNone sets i = (d : Variable) → IsDesignated i d → MayControl sets i d → ⊥

-- the variable v controls a polymorphic instruction: it is the designated operand's variable, if that may control, and
-- else the first output's, if that output is a value and its variable may control
pub record IsControlledBy (sets : Sets) (i : Instruction) (v : Variable) : Type 0 where
  pub polymorphic : IsPolymorphic sets i
  pub may : MayControl sets i v
  pub chosen : IsDesignated i v ⊎ (DesignatesNone sets i × IsFirstOutput i v)

-- the control of an instruction: none where it isn't polymorphic
abbrev pub IsControl : Sets → Instruction → Option Variable → Type 0
IsControl sets i None = HasOneEverywhere sets i
IsControl sets i (Some v) = IsControlledBy sets i v

-- the instruction is polymorphic, and neither the designated operand's variable nor the first output's controls it
pub record HasNoControl (sets : Sets) (i : Instruction) : Type 0 where
  pub polymorphic : IsPolymorphic sets i
  pub designated : DesignatesNone sets i
  pub first : (v : Variable) → IsFirstOutput i v → MayControl sets i v → ⊥

-- s can't be a second control: it is derived, or it is the root of no operand, or the instruction isn't polymorphic
abbrev pub CannotBeSecond : Sets → Instruction → Variable → Type 0
CannotBeSecond sets i s = (s.chain ≢ []) ⊎ ((k : ℕ) (w : Variable) → IsOperand i k w → w.root ≢ s.root) ⊎ HasOneEverywhere sets i

-- the instruction names a second control that can't be one
abbrev pub HasBadSecond : Sets → Instruction → Type 0
HasBadSecond sets i = (s : Variable) × (i.second ≡ Some s) × CannotBeSecond sets i s

-- w is derived, no type is fixed for it, and it isn't one step from a control
pub record IsBadlyDerived (sets : Sets) (controls : Which → Option Variable) (w : Variable) : Type 0 where
  pub derived : w.chain ≢ []
  pub not_fixed : IsOpen sets w
  pub no_step : (a : Which) (v : Variable) (f : Function) → controls a ≡ Some v → IsDerivedBy v w f → ⊥

-- the operand at place k is such a variable
pub record HasBadDerivation (sets : Sets) (i : Instruction) (control : Option Variable) (k : ℕ) : Type 0 where
  pub variable : Variable
  pub operand : IsOperand i k variable
  pub bad : IsBadlyDerived sets (controls_of i control) variable

-- and no operand before it is
pub record IsFirstBadDerivation (sets : Sets) (i : Instruction) (control : Option Variable) (k : ℕ) : Type 0 where
  pub bad : HasBadDerivation sets i control k
  pub first : (j : ℕ) → j < k → HasBadDerivation sets i control j → ⊥

-- under its control, the first operand that is badly derived stands at the place
pub record DerivesBadly (sets : Sets) (i : Instruction) (place : ℕ) : Type 0 where
  pub control : Option Variable
  pub is_control : IsControl sets i control
  pub first : IsFirstBadDerivation sets i control place
