-- The faults of declarations, and the order in which they are looked for.
--     HasFaultAt d p e        the declarations have the fault e at the position p
--     IsFirstFault d e       e is the first fault that they have
--     IsValid d              they have no fault
use Rattle.std.specs.Prelude.{◌≡◌, ◌≢◌, ◌<◌, ◌+◌, ◌⊎◌, ℕ, List, [], length, map, slice_get, Option, Some}
use Rattle.meta_types.specs.Name.{IsName}
use Rattle.meta_types.specs.SharedNames.{IsDuplicate}
use Rattle.meta_types.specs.FirstFault.{Key, key_at, IsFirstFound, HasNoFault}
use Rattle.meta_types.specs.declared.fault.Place.TheVariants.{Instruction as AtInstruction, Format as AtFormat}
use Rattle.meta_types.specs.declared.fault.DefinitionError.{DefinitionError}
use Rattle.meta_types.specs.declared.fault.DefinitionError.TheVariants.{BadName, DuplicateName, TooManyOpcodes, BadFormat, FormatClash}
use Rattle.meta_types.specs.declared.fault.DefinitionError.TheVariants.{TooManyTypeSets}
use Rattle.meta_typevar.specs.TypeSetParts.{TypeSetParts, HasOne}
use Rattle.meta_typevar.specs.Variable.{Variable, Sets}
use Rattle.meta_operands.specs.declared.format.InstructionFormat.{InstructionFormat}
use Rattle.meta_operands.specs.Structure.{SharesStructure}
use Rattle.meta_inst.specs.Builder.{Builder}
use Rattle.meta_inst.specs.Which.{Which}
use Rattle.meta_inst.specs.Instruction.{Instruction, IsOperand, controls_of}
use Rattle.meta_inst.specs.Control.{IsControl}
use Rattle.meta_inst.specs.InstructionFaults.{Rule, DuplicateRule, rule_number, Breaks}
use Rattle.meta_inst.specs.InstructionSet.{InstructionSet, root_sets, instruction_in_set}

-- the instruction at place k, counted from 0, and the number that a fault has for it, counted from 1
abbrev pub IsAt : InstructionSet → ℕ → Builder → Type 0
IsAt d k b = slice_get d.instructions k ≡ Some b

-- the names of the instructions, in order
abbrev pub names_of : InstructionSet → List (List ℕ)
names_of d = map (λ b. b.name) d.instructions

-- more than 4,095 instructions
abbrev pub HasTooManyOpcodes : InstructionSet → Type 0
HasTooManyOpcodes d = 4095 < length d.instructions

-- the format f is in use, and the instruction at place k is the first that uses it
pub record IsFirstUse (d : InstructionSet) (f k : ℕ) : Type 0 where
  pub user : Builder
  pub at : IsAt d k user
  pub uses : user.format ≡ f
  pub first : (i : ℕ) (b : Builder) → i < k → IsAt d i b → b.format ≢ f

-- the name of the format isn't a name
abbrev pub HasBadFormatName : InstructionSet → ℕ → Type 0
HasBadFormatName d f = (format : InstructionFormat) × (slice_get d.formats f ≡ Some format) × (IsName format.name → ⊥)

-- the format has more than two blocks, or more than one raw block
abbrev pub HasTooManyBlocks : InstructionSet → ℕ → Type 0
HasTooManyBlocks d f = (format : InstructionFormat) × (slice_get d.formats f ≡ Some format)
    × ((2 < format.num_block_operands) ⊎ (1 < format.num_raw_block_operands))

-- two formats that can't both be in use: they share their name or their structure
abbrev pub SharesFormat : InstructionFormat → InstructionFormat → Type 0
SharesFormat a b = (a.name ≡ b.name) ⊎ SharesStructure a b

-- the same of the formats with these numbers
abbrev pub AreClashing : InstructionSet → ℕ → ℕ → Type 0
AreClashing d f g = (a : InstructionFormat) × (b : InstructionFormat) × (slice_get d.formats f ≡ Some a) × (slice_get d.formats g ≡ Some b)
    × SharesFormat a b

-- g is the format, of those used before place k, that clashes with f, and the first used of them
pub record IsFirstClash (d : InstructionSet) (f k g : ℕ) : Type 0 where
  pub place : ℕ
  pub first_use : IsFirstUse d g place
  pub earlier : place < k
  pub clashes : AreClashing d f g
  pub first : (i h : ℕ) → i < place → IsFirstUse d h i → AreClashing d f h → ⊥

-- s is the set of the control a
pub record IsControlSet (sets : Sets) (controls : Which → Option Variable) (a : Which) (s : TypeSetParts) : Type 0 where
  pub variable : Variable
  pub controls_is : controls a ≡ Some variable
  pub set : s ≡ sets variable.root

-- s is the set of an underived value operand other than the controls, and hasn't exactly one type
pub record IsFreeSet (sets : Sets) (i : Instruction) (control : Option Variable) (s : TypeSetParts) : Type 0 where
  pub place : ℕ
  pub variable : Variable
  pub operand : IsOperand i place variable
  pub underived : variable.chain ≡ []
  pub other : (a : Which) → controls_of i control a ≢ Some variable
  pub set : s ≡ sets variable.root
  pub several : HasOne s → ⊥

-- the instruction at place k needs the set in the tables: it is the set of one of its controls, or that of another underived value
-- operand whose set hasn't exactly one type
pub record NeedsSetAt (d : InstructionSet) (k : ℕ) (s : TypeSetParts) : Type 0 where
  pub user : Builder
  pub at : IsAt d k user
  pub control : Option Variable
  pub is_control : IsControl (root_sets d) (instruction_in_set d user) control
  pub needs : ((a : Which) × IsControlSet (root_sets d) (controls_of (instruction_in_set d user) control) a s)
      ⊎ IsFreeSet (root_sets d) (instruction_in_set d user) control s

-- an instruction needs the set
abbrev pub NeedsSet : InstructionSet → TypeSetParts → Type 0
NeedsSet d s = (k : ℕ) × NeedsSetAt d k s

-- these are the sets that the instructions need, each once
pub record AreNeededSets (d : InstructionSet) (sets : List TypeSetParts) : Type 0 where
  pub needed : (k : ℕ) (s : TypeSetParts) → slice_get sets k ≡ Some s → NeedsSet d s
  pub all : (s : TypeSetParts) → NeedsSet d s → (k : ℕ) × (slice_get sets k ≡ Some s)
  pub once : (j k : ℕ) (s : TypeSetParts) → slice_get sets j ≡ Some s → slice_get sets k ≡ Some s → j ≡ k

-- the instructions need this many different sets, and these are more than 4,095
abbrev pub HasTooManyTypeSets : InstructionSet → ℕ → Type 0
HasTooManyTypeSets d count = (sets : List TypeSetParts) × AreNeededSets d sets × (count ≡ length sets) × (4095 < count)

-- the rules for a format
pub data FormatRule : Type 0 where
  FormatNameRule : FormatRule
  BlocksRule : FormatRule
  ClashRule : FormatRule

-- their order
abbrev pub format_rule_number : FormatRule → ℕ
format_rule_number FormatNameRule = 0
format_rule_number BlocksRule = 1
format_rule_number ClashRule = 2

-- Where a fault is looked for: in all declarations; at the instruction of a place, by a rule; at the format that the
-- instruction of a place is the first to use, by a rule; in the sets of all instructions.
pub data Position : Type 0 where
  OfOpcodes : Position
  OfInstruction : ℕ → Rule → Position
  OfFormat : ℕ → FormatRule → Position
  OfTypeSets : Position

-- their order: first the count of opcodes, then instruction by instruction, then format by format in the order of their first
-- uses, and the sets last
abbrev pub position_key : Position → Key
position_key OfOpcodes = key_at 0 0 0
position_key (OfInstruction k rule) = key_at 1 k (rule_number rule)
position_key (OfFormat k rule) = key_at 2 k (format_rule_number rule)
position_key OfTypeSets = key_at 3 0 0

-- the instruction at place k breaks the rule by itself, and e tells of it
pub record BreaksAt (d : InstructionSet) (k : ℕ) (rule : Rule) (e : DefinitionError) : Type 0 where
  pub builder : Builder
  pub at : IsAt d k builder
  pub breaks : Breaks d.vars d.formats builder (k + 1) rule e

-- it shares its name with an earlier one, which breaks the second rule, and e tells of the first such
pub record SharesNameAt (d : InstructionSet) (k : ℕ) (rule : Rule) (e : DefinitionError) : Type 0 where
  pub second : rule ≡ DuplicateRule
  pub earlier : ℕ
  pub duplicate : IsDuplicate (names_of d) k earlier
  pub tells : e ≡ DuplicateName (AtInstruction (k + 1)) (earlier + 1)

-- the format f, which is first used at place k, breaks the rule, and e tells of it
abbrev pub FormatBreaks : InstructionSet → ℕ → ℕ → FormatRule → DefinitionError → Type 0
FormatBreaks d k f FormatNameRule e = (e ≡ BadName (AtFormat f)) × HasBadFormatName d f
FormatBreaks d k f BlocksRule e = (e ≡ BadFormat f) × HasTooManyBlocks d f
FormatBreaks d k f ClashRule e = (g : ℕ) × (e ≡ FormatClash f g) × IsFirstClash d f k g

-- a format is first used at place k, and does
pub record FormatBreaksAt (d : InstructionSet) (k : ℕ) (rule : FormatRule) (e : DefinitionError) : Type 0 where
  pub format : ℕ
  pub first_use : IsFirstUse d format k
  pub breaks : FormatBreaks d k format rule e

-- The declarations have the fault, with its numbers, at the position. An instruction set has no faults of groups.
abbrev pub HasFaultAt : InstructionSet → Position → DefinitionError → Type 0
HasFaultAt d OfOpcodes e = (e ≡ TooManyOpcodes (length d.instructions)) × HasTooManyOpcodes d
HasFaultAt d (OfInstruction k rule) e = BreaksAt d k rule e ⊎ SharesNameAt d k rule e
HasFaultAt d (OfFormat k rule) e = FormatBreaksAt d k rule e
HasFaultAt d OfTypeSets e = (count : ℕ) × (e ≡ TooManyTypeSets count) × HasTooManyTypeSets d count

-- e is the first fault
abbrev pub IsFirstFault : InstructionSet → DefinitionError → Type 0
IsFirstFault d e = IsFirstFound position_key (HasFaultAt d) e

-- no fault is shown
abbrev pub IsValid : InstructionSet → Type 0
IsValid d = HasNoFault (HasFaultAt d)
