-- What is declared of one instruction's value operands.
use Rattle.std.specs.Prelude.{◌≡◌, ℕ, Bool, true, List, ◌++◌, slice_get, Option, Some}
use Rattle.meta_typevar.specs.Variable.{Variable}
use Rattle.meta_inst.specs.Which.{Which, both}

-- The variables of the value outputs (results) and of the value inputs (values), in order. Varargs, immediates and entity
-- references are no part of them. With them stand the place among the value inputs that the format designates, whether
-- the first output is a value, and the variable that is named as the second control, if one is.
pub record Instruction : Type 0 where
  pub results : List Variable
  pub values : List Variable
  pub designated : Option ℕ
  pub begins_with_value : Bool
  pub second : Option Variable

-- the value operands: the results, and then the values
abbrev pub operands : Instruction → List Variable
operands i = i.results ++ i.values

-- w is the k-th value operand
abbrev pub IsOperand : Instruction → ℕ → Variable → Type 0
IsOperand i k w = slice_get (operands i) k ≡ Some w

-- the controls, where `control` is the control: it, and the second control
abbrev pub controls_of : Instruction → Option Variable → Which → Option Variable
controls_of i control = both control i.second

-- d is the variable of the designated operand
pub record IsDesignated (i : Instruction) (d : Variable) : Type 0 where
  pub place : ℕ
  pub designates : i.designated ≡ Some place
  pub is_value : slice_get i.values place ≡ Some d

-- v is the variable of the first output, and that output is a value
pub record IsFirstOutput (i : Instruction) (v : Variable) : Type 0 where
  pub is_value : i.begins_with_value ≡ true
  pub first : slice_get i.results 0 ≡ Some v
