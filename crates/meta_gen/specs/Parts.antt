-- The parts of whole tables: all but the slots, which follow from the names.
--     HasParts parts t      the tables have these parts
use Rattle.std.specs.Prelude.{◌≡◌, ℕ, List, length, slice_get, Some}
use Rattle.meta_gen.specs.WellFormedOpcodes.{HaveParts}
use Rattle.meta_setting_tables.specs.declared.parts.GroupParts.{GroupParts}
use Rattle.meta_setting_tables.specs.GroupTables.{GroupContents}
use Rattle.meta_setting_tables.specs.Parts.{HasGroupParts}
use Rattle.meta_gen.specs.declared.parts.TableParts.{TableParts}
use Rattle.meta_gen.specs.WholeTables.{WholeTables}

-- the tables of the groups have these parts, group by group
pub record HaveGroupParts (parts : List GroupParts) (groups : List GroupContents) : Type 0 where
  pub count : length groups ≡ length parts
  pub each : (k : ℕ) (p : GroupParts) (g : GroupContents) → slice_get parts k ≡ Some p → slice_get groups k ≡ Some g → HasGroupParts p g

-- the tables have these parts
pub record HasParts (parts : TableParts) (t : WholeTables) : Type 0 where
  pub opcodes : HaveParts t.opcodes parts.names.items parts.formats.items parts.type_sets.items parts.operand_constraints.items
      parts.constraints.items
  pub groups : HaveGroupParts parts.groups.items t.groups
