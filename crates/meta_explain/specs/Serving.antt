-- Controls one by one: which serve the operands that go by them.
--     Serves a u x               u serves as the control a for an operand with the constraint x
--     IsServing tables e a u     u fits as the control a, and serves for each operand
--     AreMet tables e            what the operands ask for beside that can be met
use Rattle.std.specs.Prelude.{◌≡◌, ◌≢◌, ◌<◌, ◌+◌, ℕ, List, [], slice_get, Option, None, Some}
use Rattle.std.specs.Global.{Vec}
use Rattle.meta_types.specs.Function.{Function, StepsNumbers}
use Rattle.meta_inst.specs.Which.{Which}
use Rattle.meta_inst.specs.Tables.{TableContents, OpcodeNumbers, NumberConstraint, ConcreteNumber, FreeOf, SameNumber, ByNumber}
use Rattle.meta_inst.specs.Tables.{SetContains, ControlNumberFits, no_type_set, result_count, value_count}
use Rattle.meta_explain.specs.Listed.{AreListed, IsLess}
use Rattle.meta_explain.specs.Search.{offset_of}

-- the function leads from the type with this number to some type
abbrev pub LeadsOn : Function → ℕ → Type 0
LeadsOn f u = (n : ℕ) × StepsNumbers f u n

-- the type serves as this control for an operand with the constraint: if the operand is what a function gives of that control, it gives some
-- type of this one
abbrev pub Serves : Which → ℕ → NumberConstraint → Type 0
Serves a u (ConcreteNumber n) = Unit {0}
Serves a u (FreeOf j) = Unit {0}
Serves a u (SameNumber b) = Unit {0}
Serves a u (ByNumber b f) = b ≡ a → LeadsOn f u

-- it serves for the operand whose constraint stands at this place, if there is one
abbrev pub ServesAt : TableContents → Which → ℕ → ℕ → Type 0
ServesAt tables a u place = (x : NumberConstraint) → slice_get tables.operand_constraints place ≡ Some x → Serves a u x

-- the entry has a k-th operand
abbrev pub IsPlace : OpcodeNumbers → ℕ → Type 0
IsPlace e k = k < result_count e.flags + value_count e.flags

-- the type fits as this control, and serves for each operand
pub record IsServing (tables : TableContents) (e : OpcodeNumbers) (a : Which) (u : ℕ) : Type 0 where
  pub fits : ControlNumberFits tables (offset_of e a) (Some u)
  pub serves : (k : ℕ) → IsPlace e k → ServesAt tables a u (e.constraint_offset + k)

-- some type is in the type set at this place
abbrev pub HasMember : TableContents → ℕ → Type 0
HasMember tables j = (n : ℕ) × SetContains tables j n

-- what the constraint asks for beside that can be met: its type set has some type, and its control is one that there is
abbrev pub IsMet : TableContents → OpcodeNumbers → NumberConstraint → Type 0
IsMet tables e (ConcreteNumber n) = Unit {0}
IsMet tables e (FreeOf j) = HasMember tables j
IsMet tables e (SameNumber b) = offset_of e b ≢ no_type_set
IsMet tables e (ByNumber b f) = offset_of e b ≢ no_type_set

-- a constraint stands at this place, and what it asks for beside can be met
abbrev pub IsMetAt : TableContents → OpcodeNumbers → ℕ → Type 0
IsMetAt tables e place = (x : NumberConstraint) × (slice_get tables.operand_constraints place ≡ Some x) × IsMet tables e x

-- so it is for each operand
abbrev pub AreMet : TableContents → OpcodeNumbers → Type 0
AreMet tables e = (k : ℕ) → IsPlace e k → IsMetAt tables e (e.constraint_offset + k)

-- nothing is listed where there is no such control, and else exactly the types that fit and serve
abbrev pub AreServing : TableContents → OpcodeNumbers → Which → Option (Vec ℕ) → Type 0
AreServing tables e a None = offset_of e a ≡ no_type_set
AreServing tables e a (Some types) = (offset_of e a ≢ no_type_set) × AreListed IsLess (IsServing tables e a) types.items

-- there is such a control, and no type serves
abbrev pub IsEmptyOption : Option (Vec ℕ) → Type 0
IsEmptyOption None = ⊥
IsEmptyOption (Some types) = types.items ≡ []
