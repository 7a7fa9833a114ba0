-- What is made for the instructions: the one list of operand constraints and the entries.
--     EntryHolds vars i type_sets constraints e      the entry holds the instruction
--     IsAdded vars i type_sets old new e             the instruction's list is added, and the entry has its offset
--     HoldNeeded type_sets sets i                    the type sets hold what the instruction needs
--     CanEnter vars type_sets c                      the built instruction can have an entry
use Rattle.std.specs.Prelude.{◌≡◌, ◌⊎◌, ◌<◌, ◌≤◌, ◌+◌, ℕ, List, [], length, take, slice_get, Option, Some}
use Rattle.meta_typevar.specs.TypeSetParts.{TypeSetParts, HasOne}
use Rattle.meta_typevar.specs.Variable.{Variable, Sets}
use Rattle.meta_typevar.specs.Registry.{sets_of, variable_at}
use Rattle.meta_typevar.specs.declared.content.TypeVarContent.{TypeVarContent}
use Rattle.meta_operands.specs.declared.format.InstructionFormat.{InstructionFormat}
use Rattle.meta_inst.specs.Builder.{Builder}
use Rattle.meta_inst.specs.Which.{Which, First}
use Rattle.meta_inst.specs.Controls.{IsOneOf, AreControlsOf, controls_at}
use Rattle.meta_inst.specs.Instruction.{Instruction, controls_of}
use Rattle.meta_inst.specs.InstructionSet.{instruction_of_builder}
use Rattle.meta_inst.specs.Built.{BuiltInstruction}
use Rattle.meta_inst.specs.Content.{control_numbers}
use Rattle.meta_inst.specs.Operands.{AreOf, instruction_of_operands}
use Rattle.meta_inst.specs.Control.{IsControl, HasBadSecond, DerivesBadly}
use Rattle.meta_inst.specs.Faults.{IsControlSet, IsFreeSet}
use Rattle.meta_inst.specs.Constraint.{IsConstraint, TypeConstraint}
use Rattle.meta_inst.specs.Tables.{TableContents, StandsFor, AreOpcodeNumbersOf}
use Rattle.meta_gen.specs.Constraint.{number_constraint_of, entry_of}
use Rattle.meta_build.specs.Needed.{StandForSets}
use Rattle.meta_unique.specs.Overlap.{added, added_at}
use Rattle.meta_gen.specs.ConstraintLists.{same_constraint, overlapped, IsConstraintList}
use Rattle.meta_gen.specs.declared.constraint.Constraint.{Constraint}
use Rattle.meta_gen.specs.declared.constraint.OpcodeConstraints.{OpcodeConstraints}

-- what stood at a place of a list of constraints stands there in a later one
abbrev pub StaysIn : List Constraint → List Constraint → Type 0
StaysIn old new = (k : ℕ) (x : Constraint) → slice_get old k ≡ Some x → slice_get new k ≡ Some x

-- some type set is s
abbrev pub IsHeld : List TypeSetParts → TypeSetParts → Type 0
IsHeld type_sets s = (place : ℕ) × (slice_get type_sets place ≡ Some s)

-- the type sets hold each set that the instruction needs
abbrev pub HoldNeeded : List TypeSetParts → Sets → Instruction → Type 0
HoldNeeded type_sets sets i = (control : Option Variable) (s : TypeSetParts) → IsControl sets i control
    → ((a : Which) × IsControlSet sets (controls_of i control) a s) ⊎ IsFreeSet sets i control s → IsHeld type_sets s

-- the tables have the masks of these type sets
abbrev pub HasTypeSets : TableContents → List TypeSetParts → Type 0
HasTypeSets tables type_sets = StandForSets tables.type_sets type_sets

-- The built instruction can have an entry: its variables and its controls are of the registry, something controls it where it is
-- polymorphic, the second control that it may name can be one, no operand is badly derived, it has at most seven results and seven
-- values, and the type sets hold what it needs.
pub record CanEnter (vars : List TypeVarContent) (type_sets : List TypeSetParts) (c : BuiltInstruction) : Type 0 where
  pub variables : AreOf vars c.value_operands.variables
  pub is_control : IsControl (sets_of vars) (instruction_of_operands vars c.value_operands) (controls_at vars (control_numbers c) First)
  pub controls : AreControlsOf vars (control_numbers c)
  pub good : HasBadSecond (sets_of vars) (instruction_of_operands vars c.value_operands) → ⊥
  pub derived : (place : ℕ) → DerivesBadly (sets_of vars) (instruction_of_operands vars c.value_operands) place → ⊥
  pub results : c.value_operands.result_count ≤ 7
  pub values : length c.value_operands.variables ≤ c.value_operands.result_count + 7
  pub within : c.value_operands.result_count ≤ length c.value_operands.variables
  pub held : HoldNeeded type_sets (sets_of vars) (instruction_of_operands vars c.value_operands)

-- there is a constraint for an operand whose variable is n
abbrev pub HasConstraint : List TypeVarContent → (Which → Option ℕ) → ℕ → Type 0
HasConstraint vars controls n = (x : TypeConstraint) × IsConstraint (sets_of vars) (controls_at vars controls) (variable_at vars n) x

-- the variable n is none of the controls, it is underived, and its set hasn't exactly one type
pub record IsFreeNumber (vars : List TypeVarContent) (controls : Which → Option ℕ) (n : ℕ) : Type 0 where
  pub other : IsOneOf controls n → ⊥
  pub underived : (variable_at vars n).chain ≡ []
  pub several : HasOne (sets_of vars (variable_at vars n).root) → ⊥

-- the type sets hold the set of each underived variable that is none of the controls and hasn't one type
abbrev pub HoldFree : List TypeVarContent → (Which → Option ℕ) → List TypeSetParts → List ℕ → Type 0
HoldFree vars controls type_sets numbers = (k n : ℕ) → slice_get numbers k ≡ Some n → IsFreeNumber vars controls n
    → IsHeld type_sets (sets_of vars (variable_at vars n).root)

-- there is a constraint for each of the variables
abbrev pub AreConstrained : List TypeVarContent → (Which → Option ℕ) → List ℕ → Type 0
AreConstrained vars controls numbers = (k n : ℕ) → slice_get numbers k ≡ Some n → HasConstraint vars controls n

-- in tables with these type sets, x is the constraint of an operand whose variable is n
pub record Describes (vars : List TypeVarContent) (controls : Which → Option ℕ) (type_sets : List TypeSetParts)
    (n : ℕ) (x : Constraint) : Type 0 where
  pub constraint : TypeConstraint
  pub is_constraint : IsConstraint (sets_of vars) (controls_at vars controls) (variable_at vars n) constraint
  pub stands : (tables : TableContents) → HasTypeSets tables type_sets → StandsFor tables constraint (number_constraint_of x)

-- such a constraint stands at this place of the list
pub record IsDescribedAt (vars : List TypeVarContent) (controls : Which → Option ℕ) (type_sets : List TypeSetParts)
    (constraints : List Constraint) (place n : ℕ) : Type 0 where
  pub constraint : Constraint
  pub at : slice_get constraints place ≡ Some constraint
  pub describes : Describes vars controls type_sets n constraint

-- the list is the constraints of the variables, in order
pub record AreDescribed (vars : List TypeVarContent) (controls : Which → Option ℕ) (type_sets : List TypeSetParts)
    (list : List Constraint) (numbers : List ℕ) : Type 0 where
  pub count : length list ≡ length numbers
  pub each : (k n : ℕ) → slice_get numbers k ≡ Some n → IsDescribedAt vars controls type_sets list k n

-- each constraint stands in the tables, at its place
abbrev pub HoldConstraints : TableContents → List Constraint → Type 0
HoldConstraints tables constraints = (k : ℕ) (x : Constraint) → slice_get constraints k ≡ Some x
    → slice_get tables.operand_constraints k ≡ Some (number_constraint_of x)

-- in tables with these type sets and operand constraints, the entry holds the instruction, under its control; the second control
-- that it may name can be one
pub record EntryHolds (vars : List TypeVarContent) (i : Instruction) (type_sets : List TypeSetParts)
    (constraints : List Constraint) (e : OpcodeConstraints) : Type 0 where
  pub control : Option Variable
  pub is_control : IsControl (sets_of vars) i control
  pub good : HasBadSecond (sets_of vars) i → ⊥
  pub is_entry : (tables : TableContents) → HasTypeSets tables type_sets → HoldConstraints tables constraints
      → AreOpcodeNumbersOf (sets_of vars) i control tables (entry_of e)

-- the list of the instruction's constraints was added to the one list, and the entry says where it then stands
pub record IsAdded (vars : List TypeVarContent) (i : Instruction) (type_sets : List TypeSetParts)
    (old new : List Constraint) (e : OpcodeConstraints) : Type 0 where
  pub control : Option Variable
  pub is_control : IsControl (sets_of vars) i control
  pub list : List Constraint
  pub is_list : (tables : TableContents) → HasTypeSets tables type_sets → IsConstraintList (sets_of vars) control tables i list
  pub made : new ≡ added same_constraint old list
  pub offset : e.constraint_offset ≡ added_at same_constraint old list

-- the entry at this place holds the instruction b
pub record IsHeldAt (vars : List TypeVarContent) (formats : List InstructionFormat) (type_sets : List TypeSetParts)
    (constraints : List Constraint) (entries : List OpcodeConstraints) (k : ℕ) (b : Builder) : Type 0 where
  pub entry : OpcodeConstraints
  pub at : slice_get entries k ≡ Some entry
  pub holds : EntryHolds vars (instruction_of_builder vars formats b) type_sets constraints entry

-- the list at this place is that of the instruction b, under its control
pub record IsListOf (vars : List TypeVarContent) (formats : List InstructionFormat) (type_sets : List TypeSetParts)
    (lists : List (List Constraint)) (k : ℕ) (b : Builder) : Type 0 where
  pub control : Option Variable
  pub is_control : IsControl (sets_of vars) (instruction_of_builder vars formats b) control
  pub list : List Constraint
  pub at : slice_get lists k ≡ Some list
  pub is_list : (tables : TableContents) → HasTypeSets tables type_sets
      → IsConstraintList (sets_of vars) control tables (instruction_of_builder vars formats b) list

-- these lists are those of the first instructions, added one after another, and the entries say where each then stood
pub record AreAdded (vars : List TypeVarContent) (formats : List InstructionFormat) (instructions : List Builder)
    (type_sets : List TypeSetParts) (constraints : List Constraint) (entries : List OpcodeConstraints)
    (lists : List (List Constraint)) : Type 0 where
  pub count : length lists ≡ length entries
  pub whole : constraints ≡ overlapped lists
  pub are : (k : ℕ) (b : Builder) → k < length entries → slice_get instructions k ≡ Some b → IsListOf vars formats type_sets lists k b
  pub offsets : (k : ℕ) (list : List Constraint) (e : OpcodeConstraints) → slice_get lists k ≡ Some list
      → slice_get entries k ≡ Some e → e.constraint_offset ≡ added_at same_constraint (overlapped (take k lists)) list
