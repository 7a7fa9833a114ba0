-- What the auditor says of tables that are compared with declarations.
--     IsAuditVerdict d t verdict          the verdict on the tables t for the declarations d
--     IsComparison own t verdict     the same, if own are the tables of these declarations
use Rattle.std.specs.Prelude.{◌≡◌, ◌≢◌, ◌<◌, ◌+◌, ◌⊎◌, ℕ, List, [], ◌∷◌, ◌++◌, Option, None, Some, length, slice_get}
use Rattle.std.specs.Option.{option_map}
use Rattle.meta_lists.specs.First.{IsFirst}
use Rattle.meta_inst.specs.Builder.{Builder}
use Rattle.meta_inst.specs.InstructionSet.{InstructionSet}
use Rattle.meta_inst.specs.Faults.{IsAt}
use Rattle.meta_inst.specs.Tables.{TableContents}
use Rattle.meta_settings.specs.GroupDeclaration.{GroupDeclaration}
use Rattle.meta_settings.specs.LaidOut.{built_of}
use Rattle.meta_gen.specs.Contents.{IsOpcodeNamed}
use Rattle.meta_setting_tables.specs.FoundSetting.{entry_names, FindsEntry}
use Rattle.meta_setting_tables.specs.GroupTables.{GroupContents, names_in}
use Rattle.meta_build.specs.AllDeclared.{Declared}
use Rattle.meta_gen.specs.WholeTables.{WholeTables, OfGroup, HasNoGroup}
use Rattle.meta_audit.specs.Matching.{Matches}
use Rattle.meta_audit.specs.Comparison.{SameOpcode}
use Rattle.meta_audit.specs.declared.verdict.Verdict.{Verdict}
use Rattle.meta_audit.specs.declared.verdict.Verdict.TheVariants.{Yes, Opcodes, Opcode, Group}

-- the names of the entries of the group at this place, in order, if there is such a group: of declarations, and of tables
abbrev pub declared_entries : List GroupDeclaration → ℕ → Option (List (List ℕ))
declared_entries groups g = option_map (λ d. entry_names (built_of d)) (slice_get groups g)

abbrev pub entries_at : List GroupContents → ℕ → Option (List (List ℕ))
entries_at groups g = option_map (λ t. names_in t.descriptors) (slice_get groups g)

-- there are as many opcodes as instructions
abbrev pub AreAsMany : InstructionSet → TableContents → Type 0
AreAsMany d tables = length tables.entries ≡ length d.instructions

-- each opcode means the instruction at its place
abbrev pub AllMatch : InstructionSet → TableContents → Type 0
AllMatch d tables = (k : ℕ) (b : Builder) → IsAt d k b → Matches d tables k b

-- the opcode of this place doesn't mean the instruction there
pub record Differs (d : InstructionSet) (tables : TableContents) (k : ℕ) : Type 0 where
  pub builder : Builder
  pub at : IsAt d k builder
  pub other : Matches d tables k builder → ⊥

-- the groups at this place don't have the same names of entries, or one of them is missing
abbrev pub DiffersAt : Declared → WholeTables → ℕ → Type 0
DiffersAt d t g = entries_at t.groups g ≢ declared_entries d.groups g

-- the tables mean the declarations: each opcode its instruction, and each group has the names of its entries, in order
pub record AreMeant (d : Declared) (t : WholeTables) : Type 0 where
  pub count : AreAsMany d.set t.opcodes
  pub opcodes : AllMatch d.set t.opcodes
  pub groups : (g : ℕ) → entries_at t.groups g ≡ declared_entries d.groups g

-- there are as many opcodes as instructions, and n is the number of the first that doesn't match
pub record IsOtherOpcode (d : Declared) (t : WholeTables) (n : ℕ) : Type 0 where
  pub count : AreAsMany d.set t.opcodes
  pub place : ℕ
  pub number : n ≡ place + 1
  pub first : IsFirst (Differs d.set t.opcodes) place

-- all opcodes match, and g is the first group that differs
pub record IsOtherGroup (d : Declared) (t : WholeTables) (g : ℕ) : Type 0 where
  pub count : AreAsMany d.set t.opcodes
  pub opcodes : AllMatch d.set t.opcodes
  pub first : IsFirst (DiffersAt d t) g

-- the verdict: that there are more or fewer opcodes; the first opcode or the first group that differs; or that the tables mean the
-- declarations
abbrev pub IsAuditVerdict : Declared → WholeTables → Verdict → Type 0
IsAuditVerdict d t Yes = AreMeant d t
IsAuditVerdict d t Opcodes = AreAsMany d.set t.opcodes → ⊥
IsAuditVerdict d t (Opcode n) = IsOtherOpcode d t n
IsAuditVerdict d t (Group g) = IsOtherGroup d t g

-- ---- what is found by a name in tables

-- the answer of a look-up of an opcode by its name: the first that has it, and none if no opcode has it
abbrev pub FindsOpcode : TableContents → List ℕ → Option ℕ → Type 0
FindsOpcode tables name None = (op : ℕ) → IsOpcodeNamed tables.names name op → ⊥
FindsOpcode tables name (Some op) = IsFirst (IsOpcodeNamed tables.names name) op

-- the answer of a look-up of a setting in a group; none if there is no such group
pub record FindsSettingIn (t : WholeTables) (group : ℕ) (name : List ℕ) (answer : Option ℕ) : Type 0 where
  pub entry : OfGroup t group (λ g. FindsEntry (names_in g.descriptors) name answer)
  pub no_group : HasNoGroup t group → answer ≡ None

-- ---- the same by the tables of the declarations

-- the opcodes of this place, which is that of an opcode, mean other things
pub record OpcodesDiffer (own other : TableContents) (k : ℕ) : Type 0 where
  pub within : k < length own.entries
  pub differ : SameOpcode own other k → ⊥

-- as many opcodes, and up to this place the same
pub record AreSameBelow (own other : TableContents) (k : ℕ) : Type 0 where
  pub count : length other.entries ≡ length own.entries
  pub same : (j : ℕ) → j < k → SameOpcode own other j

-- the groups of this place don't have the same names of entries
abbrev pub GroupsDiffer : WholeTables → WholeTables → ℕ → Type 0
GroupsDiffer own other g = entries_at other.groups g ≢ entries_at own.groups g

abbrev pub IsComparison : WholeTables → WholeTables → Verdict → Type 0
IsComparison own other Yes = AreSameBelow own.opcodes other.opcodes (length own.opcodes.entries)
    × ((g : ℕ) → entries_at other.groups g ≡ entries_at own.groups g)
IsComparison own other Opcodes = length other.opcodes.entries ≢ length own.opcodes.entries
IsComparison own other (Opcode n) = (k : ℕ) × (n ≡ k + 1) × AreSameBelow own.opcodes other.opcodes k
    × OpcodesDiffer own.opcodes other.opcodes k
IsComparison own other (Group g) = AreSameBelow own.opcodes other.opcodes (length own.opcodes.entries) × IsFirst (GroupsDiffer own other) g
