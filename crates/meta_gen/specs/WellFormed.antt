-- Well-formed whole tables.
use Rattle.std.specs.Prelude.{All}
use Rattle.meta_gen.specs.WellFormedOpcodes.{IsWellFormedOpcodes}
use Rattle.meta_setting_tables.specs.WellFormed.{IsWellFormedGroup}
use Rattle.meta_gen.specs.WholeTables.{WholeTables}

-- the tables of the opcodes are well-formed, and so are those of each group
pub record IsWellFormed (t : WholeTables) : Type 0 where
  pub opcodes : IsWellFormedOpcodes t.opcodes
  pub groups : All IsWellFormedGroup t.groups
