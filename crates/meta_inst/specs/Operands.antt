-- The value operands of an instruction, as the checks of its declaration see them.
use Rattle.std.specs.Prelude.{◌≡◌, ◌≢◌, ◌<◌, ◌≤◌, ◌⊎◌, ℕ, Bool, List, [], length, ◌==◌, count_by, unwrap_or, map, take, drop, Option}
use Rattle.std.specs.Prelude.{slice_get, None, Some, option_map, option_and_then, if◌then◌else◌}
use Rattle.meta_typevar.specs.Variable.{Variable}
use Rattle.meta_typevar.specs.Registry.{variable_at, sets_of}
use Rattle.meta_typevar.specs.TypeSetParts.{HasOne}
use Rattle.meta_typevar.specs.declared.content.TypeVarContent.{TypeVarContent}
use Rattle.meta_inst.specs.Which.{Which, both}
use Rattle.meta_inst.specs.Controls.{IsOneOf}
use Rattle.meta_inst.specs.Instruction.{Instruction}

-- the numbers of the variables of the results and then of the values, and how many are results; the designated place among
-- the values; whether the first output is a value; and the number of the second control
pub record OperandList : Type 0 where
  pub variables : List ℕ
  pub result_count : ℕ
  pub designated : Option ℕ
  pub begins_with_value : Bool
  pub second : Option ℕ

-- the variables with these numbers
abbrev pub variables_at : List TypeVarContent → List ℕ → List Variable
variables_at vars numbers = map (variable_at vars) numbers

-- the second control with this number
abbrev pub second_in : List TypeVarContent → Option ℕ → Option Variable
second_in vars second = option_map (variable_at vars) second

-- it is of the registry
abbrev pub SecondIsOf : List TypeVarContent → Option ℕ → Type 0
SecondIsOf vars second = (s : ℕ) → second ≡ Some s → s < length vars

-- the instruction with these operands
abbrev pub instruction_of_operands : List TypeVarContent → OperandList → Instruction
instruction_of_operands vars o = record {
  results = variables_at vars (take o.result_count o.variables);
  values = variables_at vars (drop o.result_count o.variables);
  designated = o.designated;
  begins_with_value = o.begins_with_value;
  second = second_in vars o.second;
}

-- each variable is of the registry
abbrev pub AreOf : List TypeVarContent → List ℕ → Type 0
AreOf vars numbers = (k n : ℕ) → slice_get numbers k ≡ Some n → n < length vars

-- the variable at this place stands at no other place from `from` on, and its place is one of these
pub record IsAlone (numbers : List ℕ) (from place : ℕ) : Type 0 where
  pub is_input : from ≤ place
  pub alone : (j n : ℕ) → from ≤ j → slice_get numbers j ≡ Some n → slice_get numbers place ≡ Some n → j ≡ place

-- what is counted for each variable is how often it stands among these inputs; what isn't counted counts 0
abbrev pub AreInputCounts : List ℕ → (ℕ → Option ℕ) → Type 0
AreInputCounts inputs counts = (n : ℕ) → unwrap_or (counts n) 0 ≡ count_by (λ m. m == n) inputs

-- the root of a variable has exactly one type
abbrev pub HasOneType : List TypeVarContent → ℕ → Type 0
HasOneType vars n = HasOne (sets_of vars (variable_at vars n).root)

-- some variable's root hasn't exactly one type
pub record HasSeveralTypes (vars : List TypeVarContent) (numbers : List ℕ) : Type 0 where
  pub place : ℕ
  pub variable : ℕ
  pub at : slice_get numbers place ≡ Some variable
  pub several : HasOneType vars variable → ⊥

-- each variable's root has exactly one type
abbrev pub AllHaveOneType : List TypeVarContent → List ℕ → Type 0
AllHaveOneType vars numbers = (place n : ℕ) → slice_get numbers place ≡ Some n → HasOneType vars n

-- the variable n at this place is an input, is underived, and stands at no other input
pub record IsLone (vars : List TypeVarContent) (numbers : List ℕ) (from place n : ℕ) : Type 0 where
  pub underived : (variable_at vars n).chain ≡ []
  pub alone : IsAlone numbers from place

-- the variable n at this place lets these be the controls: one of them is its root, its root has one type, or it is a lone input
abbrev pub LetsControl : List TypeVarContent → (Which → Option ℕ) → List ℕ → ℕ → ℕ → ℕ → Type 0
LetsControl vars controls numbers from place n = IsOneOf controls (variable_at vars n).root ⊎ HasOneType vars n
    ⊎ IsLone vars numbers from place n

-- v is underived and isn't the second control, and each variable lets it control beside that
pub record CanControl (vars : List TypeVarContent) (second : Option ℕ) (numbers : List ℕ) (from v : ℕ) : Type 0 where
  pub underived : (variable_at vars v).chain ≡ []
  pub not_second : second ≢ Some v
  pub all : (place n : ℕ) → slice_get numbers place ≡ Some n → LetsControl vars (both (Some v) second) numbers from place n

-- some variable has the root of s
pub record Uses (vars : List TypeVarContent) (numbers : List ℕ) (s : ℕ) : Type 0 where
  pub place : ℕ
  pub variable : ℕ
  pub at : slice_get numbers place ≡ Some variable
  pub root : (variable_at vars variable).root ≡ (variable_at vars s).root

-- none has
abbrev pub UsesNowhere : List TypeVarContent → List ℕ → ℕ → Type 0
UsesNowhere vars numbers s = (place n : ℕ) → slice_get numbers place ≡ Some n → (variable_at vars n).root ≢ (variable_at vars s).root

-- s can't be a second control: it is derived, or no variable has its root, or each variable's root has one type
abbrev pub IsNoSecond : List TypeVarContent → List ℕ → ℕ → Type 0
IsNoSecond vars numbers s = ((variable_at vars s).chain ≢ []) ⊎ UsesNowhere vars numbers s ⊎ AllHaveOneType vars numbers

-- the number of the designated operand's variable, and of the first output's, where that output is a value
abbrev pub designated_number : OperandList → Option ℕ
designated_number o = option_and_then (λ place. slice_get (drop o.result_count o.variables) place) o.designated

abbrev pub first_number : OperandList → Option ℕ
first_number o = if o.begins_with_value then slice_get (take o.result_count o.variables) 0 else None
