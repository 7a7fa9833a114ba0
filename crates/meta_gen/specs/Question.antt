-- What is asked of an instruction.
use Rattle.std.specs.Prelude.{ℕ, List, Option}
use Rattle.meta_types.specs.TypeParts.{TypeParts}

-- whether the instruction of this name accepts these types: of its control and of its second control, of its results and of its
-- value operands
pub record Question : Type 0 where
  pub name : List ℕ
  pub control : Option TypeParts
  pub second : Option TypeParts
  pub results : List TypeParts
  pub values : List TypeParts
