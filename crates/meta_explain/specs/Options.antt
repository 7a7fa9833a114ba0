-- The controls under which an opcode accepts something.
--     AreControlOptions tables op x      x lists them, each control for itself
--     AreTypes w, TellsTypes x           what a part has to be, and what is told, names types alone
use Rattle.std.specs.Prelude.{◌≡◌, ◌↔◌, ℕ, All, Contains, Option, None, Some}
use Rattle.std.specs.Global.{Vec}
use Rattle.meta_types.specs.TypeNumber.{IsTypeNumber}
use Rattle.meta_inst.specs.Tables.{TableContents}
use Rattle.meta_explain.specs.Listed.{AreListed, IsLess}
use Rattle.meta_explain.specs.Operands.{AcceptsSome}
use Rattle.meta_explain.specs.declared.control_types.ControlTypes.{ControlTypes}
use Rattle.meta_explain.specs.declared.control_options.ControlOptions.{ControlOptions}
use Rattle.meta_explain.specs.declared.explained.Wanted.{Wanted}
use Rattle.meta_explain.specs.declared.explained.Wanted.TheVariants.{Nothing, Types, Count}
use Rattle.meta_explain.specs.declared.explained.Explained.{Explained}
use Rattle.meta_explain.specs.declared.explained.Explained.TheVariants.{Accept, Refuse}

-- the opcode accepts something under this control and some second one, and under this second control and some first one
abbrev pub AcceptsFirst : TableContents → ℕ → Option ℕ → Type 0
AcceptsFirst tables op c = (d : Option ℕ) × AcceptsSome tables op (record { ctrl = c; second = d })

abbrev pub AcceptsSecond : TableContents → ℕ → Option ℕ → Type 0
AcceptsSecond tables op d = (c : Option ℕ) × AcceptsSome tables op (record { ctrl = c; second = d })

-- the control of which P holds: no type alone, where nothing is listed, or else exactly the types that are listed
abbrev pub AreOptions : (Option ℕ → Type 0) → Option (Vec ℕ) → Type 0
AreOptions P None = (c : Option ℕ) → (P c ↔ (c ≡ None))
AreOptions P (Some numbers) = (P None → ⊥) × AreListed IsLess (λ n. P (Some n)) numbers.items

-- the control is one of those: no type, where nothing is listed, or else one of the types that are listed
abbrev pub IsOption : Option (Vec ℕ) → Option ℕ → Type 0
IsOption None c = c ≡ None
IsOption (Some numbers) c = (n : ℕ) × (c ≡ Some n) × Contains numbers.items n

-- the opcode accepts something, exactly these controls and these second controls are those under which it does, and each one of the first
-- goes with each one of the second
pub record AreControlOptions (tables : TableContents) (op : ℕ) (x : ControlOptions) : Type 0 where
  pub first : AreOptions (AcceptsFirst tables op) x.first
  pub second : AreOptions (AcceptsSecond tables op) x.second
  pub some : (c : ControlTypes) × AcceptsSome tables op c
  pub pairs : (c : ControlTypes) → (AcceptsSome tables op c ↔ (IsOption x.first c.ctrl × IsOption x.second c.second))

-- the numbers that are listed are those of types
abbrev pub AreTypeOptions : Option (Vec ℕ) → Type 0
AreTypeOptions None = Unit {0}
AreTypeOptions (Some numbers) = All IsTypeNumber numbers.items

-- the types that a part has to be are types
abbrev pub AreTypes : Wanted → Type 0
AreTypes Nothing = Unit {0}
AreTypes (Types numbers) = All IsTypeNumber numbers.items
AreTypes (Count n) = Unit {0}

-- and so it is with what is told
abbrev pub TellsTypes : Explained → Type 0
TellsTypes Accept = Unit {0}
TellsTypes (Refuse p w) = AreTypes w
