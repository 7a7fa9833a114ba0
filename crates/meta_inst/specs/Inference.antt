-- The types that the controlling types give to the results.
--     IsInferred sets controls c w t         by the controlling types c, the variable w has the type t
--     Infers sets i control c d numbers      the controlling types fit, and give these numbers for the results
--     GivesResults tables op c d numbers     the same by tables
use Rattle.std.specs.Prelude.{◌≡◌, ◌⊎◌, ℕ, ◌+◌, List, [], ◌∷◌, ◌++◌, length, slice_get, Option, Some}
use Rattle.meta_types.specs.TypeParts.{TypeParts, number_of}
use Rattle.meta_types.specs.Function.{Function, IsRelation, AnswersNumber}
use Rattle.meta_typevar.specs.TypeSetParts.{HasOne}
use Rattle.meta_typevar.specs.Chain.{Agrees}
use Rattle.meta_typevar.specs.Variable.{Variable, Sets, underived}
use Rattle.meta_inst.specs.Which.{Which, both}
use Rattle.meta_inst.specs.Instruction.{Instruction, controls_of}
use Rattle.meta_inst.specs.Acceptance.{IsNumberOf}
use Rattle.meta_inst.specs.Constraint.{ControlFits}
use Rattle.meta_inst.specs.Tables.{TableContents, NumberConstraint, ConcreteNumber, FreeOf, SameNumber, ByNumber, OpcodeNumbers}
use Rattle.meta_inst.specs.Tables.{ControlNumberFits, at_opcode, result_count}

-- the chain of w ends in a relation, so that its type isn't determined
pub record EndsInRelation (w : Variable) : Type 0 where
  pub before : List Function
  pub last : Function
  pub chain : w.chain ≡ before ++ last ∷ []
  pub relation : IsRelation last

-- control a is the root of w
abbrev pub IsRootOf : (Which → Option Variable) → Which → Variable → Type 0
IsRootOf controls a w = controls a ≡ Some (underived w.root)

-- by the controlling types c, the root of w has the type r: it is a control, of the type r; or it isn't a control, and r is the one type of
-- its set
abbrev pub RootHas : Sets → (Which → Option Variable) → (Which → Option TypeParts) → Variable → TypeParts → Type 0
RootHas sets controls c w r = ((a : Which) × IsRootOf controls a w × (c a ≡ Some r))
    ⊎ (((a : Which) → IsRootOf controls a w → ⊥) × (one : HasOne (sets w.root)) × (r ≡ one.one))

-- from the type that the root of w has so, the chain of w leads to t
pub record IsInferred (sets : Sets) (controls : Which → Option Variable)
    (c : Which → Option TypeParts) (w : Variable) (t : TypeParts) : Type 0 where
  pub root_type : TypeParts
  pub root : RootHas sets controls c w root_type
  pub agrees : Agrees w.chain root_type t

-- n is the number for a result: 0 where its chain ends in a relation, and else that of the type that is inferred
abbrev pub IsResultNumber : Sets → (Which → Option Variable) → (Which → Option TypeParts) → Variable → ℕ → Type 0
IsResultNumber sets controls c w n = (EndsInRelation w × (n ≡ 0))
    ⊎ ((EndsInRelation w → ⊥) × ((t : TypeParts) × IsInferred sets controls c w t × (n ≡ number_of t)))

-- The controlling types c and d fit the controls of the instruction, and by them these are the numbers of its results.
pub record Infers (sets : Sets) (i : Instruction) (control : Option Variable) (c d : Option TypeParts) (numbers : List ℕ) : Type 0 where
  pub control_fits : ControlFits sets control c
  pub second_fits : ControlFits sets i.second d
  pub count : length numbers ≡ length i.results
  pub each : (k : ℕ) (w : Variable) (n : ℕ) → slice_get i.results k ≡ Some w → slice_get numbers k ≡ Some n
      → IsResultNumber sets (controls_of i control) (both c d) w n

-- the same of controlling types that have these numbers
pub record InfersNumbers (sets : Sets) (i : Instruction) (control : Option Variable) (c d : Option ℕ) (numbers : List ℕ) : Type 0 where
  pub control_type : Option TypeParts
  pub second_type : Option TypeParts
  pub control_number : IsNumberOf control_type c
  pub second_number : IsNumberOf second_type d
  pub infers : Infers sets i control control_type second_type numbers

-- ---- by tables

-- n is the number that f gives of the number of a control: what a function answers, and 0 for a relation, which leaves several
abbrev pub GivesBy : Option ℕ → Function → ℕ → Type 0
GivesBy from f n = (IsRelation f × (n ≡ 0)) ⊎ ((u : ℕ) × (from ≡ Some u) × AnswersNumber f u n)

-- n is the number that the constraint gives under these controlling numbers: its own, that of a control, what a function answers
-- for that of a control, and 0 where it leaves several
abbrev pub GivesNumber : (Which → Option ℕ) → NumberConstraint → ℕ → Type 0
GivesNumber c (ConcreteNumber m) n = n ≡ m
GivesNumber c (FreeOf j) n = n ≡ 0
GivesNumber c (SameNumber a) n = c a ≡ Some n
GivesNumber c (ByNumber a f) n = GivesBy (c a) f n

-- there is a constraint at this place of the list, and it gives n
pub record GivesAt (tables : TableContents) (c : Which → Option ℕ) (place n : ℕ) : Type 0 where
  pub constraint : NumberConstraint
  pub is_constraint : slice_get tables.operand_constraints place ≡ Some constraint
  pub gives : GivesNumber c constraint n

-- The numbers that tables give for the results of the opcode op under the controlling numbers c and d, which fit: the k-th is what
-- the k-th constraint from the entry's offset on gives.
pub record GivesResults (tables : TableContents) (op : ℕ) (c d : Option ℕ) (numbers : List ℕ) : Type 0 where
  pub entry : OpcodeNumbers
  pub is_opcode : at_opcode tables.entries op ≡ Some entry
  pub control_fits : ControlNumberFits tables entry.typeset_offset c
  pub second_fits : ControlNumberFits tables entry.second_offset d
  pub count : length numbers ≡ result_count entry.flags
  pub each : (k n : ℕ) → slice_get numbers k ≡ Some n → GivesAt tables (both c d) (entry.constraint_offset + k) n
