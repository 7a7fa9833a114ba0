-- What a part of what an opcode is asked has to be.
--     IsWanted tables e c p w             these are exactly the types with which the part passes, or this is the count
--     IsExplained tables op c rs vs x     x says whether the opcode accepts, and why it doesn't
use Rattle.std.specs.Prelude.{◌≡◌, ◌↔◌, ◌+◌, ℕ, List, Option, Some, None}
use Rattle.meta_inst.specs.Which.{Which}
use Rattle.meta_inst.specs.Tables.{TableContents, OpcodeNumbers, ControlNumberFits, PassesAt, result_count, value_count}
use Rattle.meta_explain.specs.Listed.{AreListed, IsLess}
use Rattle.meta_explain.specs.Parts.{numbers_of, Accepts, FailsFirst}
use Rattle.meta_explain.specs.declared.control_types.ControlTypes.{ControlTypes}
use Rattle.meta_explain.specs.declared.part.Part.{Part}
use Rattle.meta_explain.specs.declared.part.Part.TheVariants.{Control, Second, ResultCount, ValueCount, Operand}
use Rattle.meta_explain.specs.declared.explained.Wanted.{Wanted}
use Rattle.meta_explain.specs.declared.explained.Wanted.TheVariants.{Nothing, Types, Count}
use Rattle.meta_explain.specs.declared.explained.Explained.{Explained}
use Rattle.meta_explain.specs.declared.explained.Explained.TheVariants.{Accept, Refuse}

-- the numbers are exactly those that fit a control with this offset
abbrev pub AreOfControl : TableContents → ℕ → List ℕ → Type 0
AreOfControl tables offset numbers = AreListed IsLess (λ n. ControlNumberFits tables offset (Some n)) numbers

-- what fits a control with this offset: nothing but no number, or exactly these numbers
abbrev pub IsControlWanted : TableContents → ℕ → Wanted → Type 0
IsControlWanted tables offset Nothing = (c : Option ℕ) → (ControlNumberFits tables offset c ↔ (c ≡ None))
IsControlWanted tables offset (Types numbers) = (ControlNumberFits tables offset None → ⊥) × AreOfControl tables offset numbers.items
IsControlWanted tables offset (Count n) = ⊥

-- what passes the constraint at this place under these controls: exactly these numbers
abbrev pub IsOperandWanted : TableContents → (Which → Option ℕ) → ℕ → Wanted → Type 0
IsOperandWanted tables c place Nothing = ⊥
IsOperandWanted tables c place (Types numbers) = AreListed IsLess (PassesAt tables c place) numbers.items
IsOperandWanted tables c place (Count n) = ⊥

-- what the part has to be to pass
abbrev pub IsWanted : TableContents → OpcodeNumbers → ControlTypes → Part → Wanted → Type 0
IsWanted tables e c Control w = IsControlWanted tables e.typeset_offset w
IsWanted tables e c Second w = IsControlWanted tables e.second_offset w
IsWanted tables e c ResultCount w = w ≡ Count (result_count e.flags)
IsWanted tables e c ValueCount w = w ≡ Count (value_count e.flags)
IsWanted tables e c (Operand k) w = IsOperandWanted tables (numbers_of c) (e.constraint_offset + k) w

-- the opcode accepts the types; or the part is the first that fails, and this is what it has to be
abbrev pub IsExplained : TableContents → ℕ → ControlTypes → List ℕ → List ℕ → Explained → Type 0
IsExplained tables op c rs vs Accept = Accepts tables op c rs vs
IsExplained tables op c rs vs (Refuse p w) = (f : FailsFirst tables op c rs vs p) × IsWanted tables f.entry c p w
