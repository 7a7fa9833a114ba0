-- Whole tables: those of the opcodes, and those of each group of settings.
--     AreWholeTablesOf d t       they are those of the declarations
use Rattle.std.specs.Prelude.{◌≡◌, ◌↔◌, ℕ, List, length, slice_get, Option, None, Some}
use Rattle.std.specs.Option.{option_map}
use Rattle.meta_inst.specs.Tables.{TableContents}
use Rattle.meta_settings.specs.GroupDeclaration.{GroupDeclaration}
use Rattle.meta_settings.specs.LaidOut.{built_of}
use Rattle.meta_gen.specs.TablesOf.{AreTablesOf}
use Rattle.meta_setting_tables.specs.GroupTables.{GroupContents, AreTablesOfGroup}
use Rattle.meta_setting_tables.specs.FoundSetting.{entry_names}
use Rattle.meta_build.specs.AllDeclared.{Declared, AreValidGroups}

-- the tables of the opcodes, and those of the groups in order
pub record WholeTables : Type 0 where
  pub opcodes : TableContents
  pub groups : List GroupContents

-- P holds of the tables of the group at this place, if there is such a group
abbrev pub OfGroup : WholeTables → ℕ → (GroupContents → Type 0) → Type 0
OfGroup t group P = (g : GroupContents) → slice_get t.groups group ≡ Some g → P g

-- there is no group at this place
abbrev pub HasNoGroup : WholeTables → ℕ → Type 0
HasNoGroup t group = slice_get t.groups group ≡ None

-- a part of the tables of the group at this place, and none where there is no such group
abbrev pub part_in : {X : Type 0} → WholeTables → ℕ → (GroupContents → X) → Option X
part_in t group part = option_map part (slice_get t.groups group)

-- the tables are those of the groups, which are valid, in order
pub record AreTablesOfGroups (groups : List GroupDeclaration) (tables : List GroupContents) : Type 0 where
  pub valid : AreValidGroups groups
  pub count : length tables ≡ length groups
  pub each : (k : ℕ) (g : GroupDeclaration) (t : GroupContents) → slice_get groups k ≡ Some g → slice_get tables k ≡ Some t
      → AreTablesOfGroup (built_of g) t

-- the tables are those of the declarations: of their instruction set, and of each of their groups
pub record AreWholeTablesOf (d : Declared) (t : WholeTables) : Type 0 where
  pub opcodes : AreTablesOf d.set t.opcodes
  pub groups : AreTablesOfGroups d.groups t.groups

-- the answer is the number of the one entry of the group that has the name, and none exactly where the group has no such entry or
-- there is no such group
pub record FindsSetting (d : Declared) (group : ℕ) (name : List ℕ) (answer : Option ℕ) : Type 0 where
  pub entry : (g : GroupDeclaration) → slice_get d.groups group ≡ Some g → (e : ℕ)
      → ((answer ≡ Some e) ↔ (slice_get (entry_names (built_of g)) e ≡ Some name))
  pub no_group : slice_get d.groups group ≡ None → answer ≡ None
