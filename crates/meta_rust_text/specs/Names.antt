-- The names of operands by their places.
--     operand_name operands place      the name of the operand at this place
use Rattle.std.specs.Prelude.{ℕ, List, [], slice_get, Option, None, Some}
use Rattle.meta_operands.specs.declared.operand.Operand.{Operand}

-- the name of an operand, and no text if there is no operand
abbrev pub name_in : Option Operand → List ℕ
name_in None = []
name_in (Some o) = o.name

-- the name of the operand at this place, from 0, and no text if there is no operand there
abbrev pub operand_name : List Operand → ℕ → List ℕ
operand_name operands place = name_in (slice_get operands place)
