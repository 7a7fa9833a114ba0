-- What an instruction accepts, by its declaration alone.
use Rattle.std.specs.Prelude.{◌≡◌, ℕ, List, ◌++◌, length, slice_get, map, Option, None, Some}
use Rattle.meta_types.specs.TypeParts.{TypeParts, IsType, number_of}
use Rattle.meta_typevar.specs.TypeSetParts.{IsMember}
use Rattle.meta_typevar.specs.Chain.{Agrees}
use Rattle.meta_typevar.specs.Variable.{Variable, Sets}
use Rattle.meta_inst.specs.Instruction.{Instruction, IsOperand}

-- there is no controlling type if there is no control; else it is what was chosen for the control's root
abbrev pub IsChosenControl : (ℕ → TypeParts) → Option Variable → Option TypeParts → Type 0
IsChosenControl choice None c = c ≡ None
IsChosenControl choice (Some v) c = c ≡ Some (choice v.root)

-- The instruction with this control accepts the controlling type c, the second controlling type d, the results rs and the
-- values vs: there is one choice of a type for every root at once, each a member of its root's set, that gives the controlling
-- types, and from which the chain of each operand leads to that operand's type.
pub record Accepts (sets : Sets) (i : Instruction) (control : Option Variable) (c d : Option TypeParts)
    (rs vs : List TypeParts) : Type 0 where
  pub results : length rs ≡ length i.results
  pub values : length vs ≡ length i.values
  pub choice : ℕ → TypeParts
  pub members : (k : ℕ) (w : Variable) → IsOperand i k w → IsMember (sets w.root) (choice w.root)
  pub controlled : IsChosenControl choice control c
  pub second_controlled : IsChosenControl choice i.second d
  pub agrees : (k : ℕ) (w : Variable) (t : TypeParts) → IsOperand i k w → slice_get (rs ++ vs) k ≡ Some t → Agrees w.chain (choice w.root) t

-- each is a type, and these are their numbers
pub record AreNumbersOf (ts : List TypeParts) (ns : List ℕ) : Type 0 where
  pub types : (k : ℕ) (t : TypeParts) → slice_get ts k ≡ Some t → IsType t
  pub numbers : ns ≡ map number_of ts

-- no number stands for no type, and a number for the type that has it
abbrev pub IsNumberOf : Option TypeParts → Option ℕ → Type 0
IsNumberOf None n = n ≡ None
IsNumberOf (Some t) n = IsType t × (n ≡ Some (number_of t))

-- the instruction accepts the types that have these numbers
pub record AcceptsNumbers (sets : Sets) (i : Instruction) (control : Option Variable) (c d : Option ℕ) (rs vs : List ℕ) : Type 0 where
  pub control_type : Option TypeParts
  pub second_type : Option TypeParts
  pub result_types : List TypeParts
  pub value_types : List TypeParts
  pub control_number : IsNumberOf control_type c
  pub second_number : IsNumberOf second_type d
  pub result_numbers : AreNumbersOf result_types rs
  pub value_numbers : AreNumbersOf value_types vs
  pub accepts : Accepts sets i control control_type second_type result_types value_types
