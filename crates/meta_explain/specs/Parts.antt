-- The parts of what an opcode is asked, and which of them fails first.
--     PartPasses tables e c rs vs p       the part passes
--     FailsFirst tables op c rs vs p      the part fails, and each before it passes
use Rattle.std.specs.Prelude.{◌≡◌, ◌<◌, ◌+◌, ℕ, List, ◌++◌, length, slice_get, Option, Some}
use Rattle.meta_inst.specs.Which.{Which, both}
use Rattle.meta_inst.specs.Tables.{TableContents, OpcodeNumbers, at_opcode, ControlNumberFits, PassesAt, Allows, result_count, value_count}
use Rattle.meta_explain.specs.declared.control_types.ControlTypes.{ControlTypes}
use Rattle.meta_explain.specs.declared.part.Part.{Part}
use Rattle.meta_explain.specs.declared.part.Part.TheVariants.{Control, Second, ResultCount, ValueCount, Operand}

-- the number of each controlling type
abbrev pub numbers_of : ControlTypes → Which → Option ℕ
numbers_of c = both c.ctrl c.second

-- the decoding allows these types
abbrev pub Accepts : TableContents → ℕ → ControlTypes → List ℕ → List ℕ → Type 0
Accepts tables op c rs vs = Allows tables op c.ctrl c.second rs vs

-- the part passes: each control fits, the counts are those of the flags, and the type of the operand passes its constraint; an operand
-- that isn't given has no type to fail
abbrev pub PartPasses : TableContents → OpcodeNumbers → ControlTypes → List ℕ → List ℕ → Part → Type 0
PartPasses tables e c rs vs Control = ControlNumberFits tables e.typeset_offset c.ctrl
PartPasses tables e c rs vs Second = ControlNumberFits tables e.second_offset c.second
PartPasses tables e c rs vs ResultCount = length rs ≡ result_count e.flags
PartPasses tables e c rs vs ValueCount = length vs ≡ value_count e.flags
PartPasses tables e c rs vs (Operand k) = (n : ℕ) → slice_get (rs ++ vs) k ≡ Some n
    → PassesAt tables (numbers_of c) (e.constraint_offset + k) n

-- the place of a part in the order in which the parts are looked at
abbrev pub order_of : Part → ℕ
order_of Control = 0
order_of Second = 1
order_of ResultCount = 2
order_of ValueCount = 3
order_of (Operand k) = 4 + k

-- by this entry the part fails, and each part before it passes
pub record FailsFirstBy (tables : TableContents) (e : OpcodeNumbers) (c : ControlTypes) (rs vs : List ℕ) (p : Part) : Type 0 where
  pub fails : PartPasses tables e c rs vs p → ⊥
  pub earlier : (q : Part) → order_of q < order_of p → PartPasses tables e c rs vs q

-- op is an opcode, and by its entry the part is the first that fails
pub record FailsFirst (tables : TableContents) (op : ℕ) (c : ControlTypes) (rs vs : List ℕ) (p : Part) : Type 0 where
  pub entry : OpcodeNumbers
  pub is_opcode : at_opcode tables.entries op ≡ Some entry
  pub first : FailsFirstBy tables entry c rs vs p

-- in the first list, or in the second that follows it, the type at the place k is n now, and all else is as it was
pub record AreReplaced (rs vs : List ℕ) (k n : ℕ) (new_rs new_vs : List ℕ) : Type 0 where
  pub count : length new_rs ≡ length rs
  pub long : length new_vs ≡ length vs
  pub here : slice_get (new_rs ++ new_vs) k ≡ Some n
  pub others : (j m : ℕ) → (j ≡ k → ⊥) → slice_get (new_rs ++ new_vs) j ≡ Some m → slice_get (rs ++ vs) j ≡ Some m
