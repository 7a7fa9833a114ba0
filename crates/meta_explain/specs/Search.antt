-- A search, as it tests an opcode.
--     IsFoundBy tables op e results values x      x is the opcode op, whose entry is e, with controls under which each operand can match
--     Adds P old new                              what P holds of is added to the list, in order
use Rattle.std.specs.Prelude.{◌≡◌, ◌<◌, ◌≤◌, ◌+◌, ℕ, List, ◌++◌, length, slice_get, Option, Some, None}
use Rattle.meta_types.specs.TypeNumber.{IsTypeNumber}
use Rattle.meta_inst.specs.Which.{Which, First, Second}
use Rattle.meta_inst.specs.Tables.{TableContents, OpcodeNumbers, ControlNumberFits, PassesAt}
use Rattle.meta_gen.specs.Constraint.{entry_of}
use Rattle.meta_explain.specs.Listed.{AreListed}
use Rattle.meta_explain.specs.Parts.{numbers_of}
use Rattle.meta_explain.specs.Found.{IsBefore, control_place}
use Rattle.meta_explain.specs.declared.found.Found.{Found}
use Rattle.meta_explain.specs.declared.searching.Places.{Places}
use Rattle.meta_explain.specs.declared.searching.Search.{Search}

-- what passes a constraint under these controls is the number of a type
abbrev pub TypesAlonePass : TableContents → (Which → Option ℕ) → Type 0
TypesAlonePass tables c = (place n : ℕ) → PassesAt tables c place n → IsTypeNumber n

-- at this place stands the first of the numbers that doesn't pass at its place after the offset
pub record IsFirstUnfit (tables : TableContents) (c : Which → Option ℕ) (offset : ℕ) (numbers : List ℕ) (k : ℕ) : Type 0 where
  pub number : ℕ
  pub at : slice_get numbers k ≡ Some number
  pub fails : PassesAt tables c (offset + k) number → ⊥
  pub before : (j n : ℕ) → j < k → slice_get numbers j ≡ Some n → PassesAt tables c (offset + j) n

-- some number passes at the place
abbrev pub SomePasses : TableContents → (Which → Option ℕ) → ℕ → Type 0
SomePasses tables c place = (n : ℕ) × PassesAt tables c place n

-- what is asked for passes at the place: the number, or where none is asked for, some number
abbrev pub CanPass : TableContents → (Which → Option ℕ) → ℕ → Option ℕ → Type 0
CanPass tables c place None = SomePasses tables c place
CanPass tables c place (Some n) = PassesAt tables c place n

-- what is asked for passes at each place from the offset on
abbrev pub AllCanPass : TableContents → (Which → Option ℕ) → ℕ → List (Option ℕ) → Type 0
AllCanPass tables c offset asked = (k : ℕ) (o : Option ℕ) → slice_get asked k ≡ Some o → CanPass tables c (offset + k) o

-- what is asked for tells a control: the control has this number wherever what is asked for can pass
abbrev pub Tells : TableContents → Which → ℕ → List (Option ℕ) → ℕ → Type 0
Tells tables a offset asked n = (c : Which → Option ℕ) → AllCanPass tables c offset asked → c a ≡ Some n

-- the offset of the type set of a control
abbrev pub offset_of : OpcodeNumbers → Which → ℕ
offset_of e First = e.typeset_offset
offset_of e Second = e.second_offset

-- x is the opcode, with controls that fit, under which what is asked for passes at each place
pub record IsFoundBy (tables : TableContents) (op : ℕ) (e : OpcodeNumbers) (results values : List (Option ℕ)) (x : Found) : Type 0 where
  pub opcode : x.opcode ≡ op
  pub fits : (a : Which) → ControlNumberFits tables (offset_of e a) (numbers_of x.controls a)
  pub results_pass : AllCanPass tables (numbers_of x.controls) e.constraint_offset results
  pub values_pass : AllCanPass tables (numbers_of x.controls) (e.constraint_offset + length results) values

-- x is found by this search
abbrev pub IsFoundIn : Search → Found → Type 0
IsFoundIn s x = IsFoundBy s.tables.now s.opcode (entry_of s.entry) s.results.now s.values.now x

-- the place of the control is one of these
abbrev pub IsWithin : Places → Option ℕ → Type 0
IsWithin p c = (p.from ≤ control_place c) × (control_place c < p.end)

-- at the end of the list is added exactly what P holds of, in order
pub record Adds (P : Found → Type 0) (old new : List Found) : Type 0 where
  pub part : List Found
  pub added : new ≡ old ++ part
  pub listed : AreListed IsBefore P part
