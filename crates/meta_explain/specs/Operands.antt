-- What an opcode accepts under controls, operand by operand.
--     AcceptsSome tables op c         it accepts something
--     MayBe tables op c k n           the k-th operand may be the type with the number n
--     HasCounts tables op rs vs       it has these counts of results and values
use Rattle.std.specs.Prelude.{◌≡◌, ℕ, List, ◌++◌, length, slice_get, Some}
use Rattle.meta_inst.specs.Tables.{TableContents, OpcodeNumbers, at_opcode, result_count, value_count}
use Rattle.meta_explain.specs.Parts.{Accepts}
use Rattle.meta_explain.specs.declared.control_types.ControlTypes.{ControlTypes}

-- the opcode accepts some results and values under these controls
pub record AcceptsSome (tables : TableContents) (op : ℕ) (c : ControlTypes) : Type 0 where
  pub results : List ℕ
  pub values : List ℕ
  pub accepts : Accepts tables op c results values

-- the opcode accepts some results and values under these controls of which the k-th, results before values, is n
pub record MayBe (tables : TableContents) (op : ℕ) (c : ControlTypes) (k n : ℕ) : Type 0 where
  pub results : List ℕ
  pub values : List ℕ
  pub accepts : Accepts tables op c results values
  pub at : slice_get (results ++ values) k ≡ Some n

-- op is an opcode that has as many results and values
pub record HasCounts (tables : TableContents) (op : ℕ) (rs vs : List ℕ) : Type 0 where
  pub entry : OpcodeNumbers
  pub is_opcode : at_opcode tables.entries op ≡ Some entry
  pub results : length rs ≡ result_count entry.flags
  pub values : length vs ≡ value_count entry.flags
