-- The faults that one instruction shows by itself, and the order in which they are looked for.
--     Breaks vars formats b n rule e             the instruction b, of the number n, breaks the rule, and e tells of it
--     IsFirstOwnFault vars formats b n e         e tells of the first rule that it breaks
--     IsWellMade vars formats b                  it breaks none
use Rattle.std.specs.Prelude.{◌≡◌, ◌≢◌, ◌<◌, ◌≤◌, ◌⊎◌, ◌&&◌, ℕ, Bool, true, not, List, length, slice_get, Some, is_some}
use Rattle.std.specs.List.{position}
use Rattle.meta_types.specs.Name.{IsName}
use Rattle.meta_types.specs.FirstFault.{Key, key_at, IsFirstFound, HasNoFault, HasNoneBefore}
use Rattle.meta_types.specs.declared.fault.Place.TheVariants.{Instruction as AtInstruction}
use Rattle.meta_types.specs.declared.fault.DefinitionError.{DefinitionError}
use Rattle.meta_types.specs.declared.fault.DefinitionError.TheVariants.{BadName, BadOutput, FormatMismatch, NoControl, BadSecond}
use Rattle.meta_types.specs.declared.fault.DefinitionError.TheVariants.{BadDerivation, TooManyOperands, BadImmMethod}
use Rattle.meta_typevar.specs.Registry.{sets_of}
use Rattle.meta_typevar.specs.declared.content.TypeVarContent.{TypeVarContent}
use Rattle.meta_operands.specs.Operand.{variable_of, variables_of, is_varargs_operand}
use Rattle.meta_operands.specs.declared.operand.Operand.{Operand}
use Rattle.meta_operands.specs.declared.format.InstructionFormat.{InstructionFormat}
use Rattle.meta_inst.specs.Builder.{Builder, inputs_of, outputs_of}
use Rattle.meta_inst.specs.FormatMatch.{MatchesFormat}
use Rattle.meta_inst.specs.Control.{HasNoControl, HasBadSecond, DerivesBadly}
use Rattle.meta_inst.specs.InstructionSet.{instruction_of_builder}

-- the rules for an instruction
pub data Rule : Type 0 where
  NameRule : Rule
  DuplicateRule : Rule
  OutputRule : Rule
  MismatchRule : Rule
  ControlRule : Rule
  SecondRule : Rule
  DerivationRule : Rule
  CountRule : Rule
  MethodRule : Rule

-- their order
abbrev pub rule_number : Rule → ℕ
rule_number NameRule = 0
rule_number DuplicateRule = 1
rule_number OutputRule = 2
rule_number MismatchRule = 3
rule_number ControlRule = 4
rule_number SecondRule = 5
rule_number DerivationRule = 6
rule_number CountRule = 7
rule_number MethodRule = 8

-- an instruction by itself is one place
abbrev pub rule_key : Rule → Key
rule_key rule = key_at 0 0 (rule_number rule)

-- the name isn't a name
abbrev pub HasBadName : Builder → Type 0
HasBadName b = IsName b.name → ⊥

-- whether the output is neither a value nor varargs
abbrev pub is_bad_output : Operand → Bool
is_bad_output o = not (is_some (variable_of o)) && not (is_varargs_operand o)

-- the first such output stands at the place
abbrev pub HasBadOutput : Builder → ℕ → Type 0
HasBadOutput b place = position is_bad_output (outputs_of b) ≡ Some place

-- the inputs aren't stored as the format says
abbrev pub HasFormatMismatch : List InstructionFormat → Builder → Type 0
HasFormatMismatch formats b = (format : InstructionFormat) × (slice_get formats b.format ≡ Some format)
    × (MatchesFormat format (inputs_of b) → ⊥)

-- the instruction is polymorphic, and nothing controls it
abbrev pub LacksItsControl : List TypeVarContent → List InstructionFormat → Builder → Type 0
LacksItsControl vars formats b = HasNoControl (sets_of vars) (instruction_of_builder vars formats b)

-- the instruction names a second control that can't be one
abbrev pub NamesBadSecond : List TypeVarContent → List InstructionFormat → Builder → Type 0
NamesBadSecond vars formats b = HasBadSecond (sets_of vars) (instruction_of_builder vars formats b)

-- under its control, the first operand that is badly derived is the one at the place, among results and then values
abbrev pub IsDerivedBadlyAt : List TypeVarContent → List InstructionFormat → Builder → ℕ → Type 0
IsDerivedBadlyAt vars formats b place = DerivesBadly (sets_of vars) (instruction_of_builder vars formats b) place

-- with these counts of value results and inputs, one is too large: eight or more results, and how many; or, with fewer results, eight or
-- more inputs, and how many
abbrev pub AreTooMany : ℕ → ℕ → ℕ → Type 0
AreTooMany results values count = ((7 < results) × (count ≡ results)) ⊎ ((results ≤ 7) × (7 < values) × (count ≡ values))

-- the instruction has too many of them, and how many
abbrev pub HasTooManyOperands : Builder → ℕ → Type 0
HasTooManyOperands b count = AreTooMany (length (variables_of (outputs_of b))) (length (variables_of (inputs_of b))) count

-- no method can take an immediate for the last value input: the format has a value list, or the value results aren't one, or
-- the value inputs are fewer than two
abbrev pub TakesNoImmediate : InstructionFormat → ℕ → ℕ → Type 0
TakesNoImmediate format results values = (format.has_value_list ≡ true) ⊎ ((results ≢ 1) ⊎ (values < 2))

-- such a method is asked for
abbrev pub HasBadImmMethod : List InstructionFormat → Builder → Type 0
HasBadImmMethod formats b = (b.marks.inst_builder_imm_method ≡ true)
    × (format : InstructionFormat)
    × (slice_get formats b.format ≡ Some format)
    × TakesNoImmediate format (length (variables_of (outputs_of b))) (length (variables_of (inputs_of b)))

-- the instruction b, of the number n, breaks the rule, and e tells of it, with its numbers
abbrev pub Breaks : List TypeVarContent → List InstructionFormat → Builder → ℕ → Rule → DefinitionError → Type 0
-- its name isn't a name
Breaks vars formats b n NameRule e = (e ≡ BadName (AtInstruction n)) × HasBadName b
-- an earlier one shares its name: no instruction breaks that rule by itself
Breaks vars formats b n DuplicateRule e = ⊥
-- an output is neither a value nor varargs, and the first such is told
Breaks vars formats b n OutputRule e = (place : ℕ) × (e ≡ BadOutput n place) × HasBadOutput b place
-- its inputs aren't stored as its format says
Breaks vars formats b n MismatchRule e = (e ≡ FormatMismatch n) × HasFormatMismatch formats b
-- it is polymorphic, and nothing controls it
Breaks vars formats b n ControlRule e = (e ≡ NoControl n) × LacksItsControl vars formats b
-- its second control can't be one
Breaks vars formats b n SecondRule e = (e ≡ BadSecond n) × NamesBadSecond vars formats b
-- an operand is derived, has no fixed type, and isn't one step from a control; the first such is told
Breaks vars formats b n DerivationRule e = (place : ℕ) × (e ≡ BadDerivation n place) × IsDerivedBadlyAt vars formats b place
-- it has more than seven value results, or more than seven value inputs
Breaks vars formats b n CountRule e = (count : ℕ) × (e ≡ TooManyOperands n count) × HasTooManyOperands b count
-- the immediate method is asked for where it can't be
Breaks vars formats b n MethodRule e = (e ≡ BadImmMethod n) × HasBadImmMethod formats b

-- e tells of the first rule that the instruction breaks
abbrev pub IsFirstOwnFault : List TypeVarContent → List InstructionFormat → Builder → ℕ → DefinitionError → Type 0
IsFirstOwnFault vars formats b n e = IsFirstFound rule_key (Breaks vars formats b n) e

-- the instruction breaks no rule, whatever its number is
abbrev pub IsWellMade : List TypeVarContent → List InstructionFormat → Builder → Type 0
IsWellMade vars formats b = (n : ℕ) → HasNoFault (Breaks vars formats b n)

-- it breaks none of the rules before this one
abbrev pub KeepsRulesBefore : List TypeVarContent → List InstructionFormat → Builder → Rule → Type 0
KeepsRulesBefore vars formats b rule = (n : ℕ) → HasNoneBefore rule_key (Breaks vars formats b n) (rule_key rule)
