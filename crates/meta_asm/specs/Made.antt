-- Tables that are made of valid declarations.
use Rattle.std.specs.Prelude.{◌↔◌, ℕ, List, Option}
use Rattle.meta_inst.specs.InstructionSet.{InstructionSet}
use Rattle.meta_inst.specs.Faults.{IsValid}
use Rattle.meta_inst.specs.Tables.{TableContents, Allows}
use Rattle.meta_gen.specs.TablesOf.{AreTablesOf, AcceptsOpcode}
use Rattle.meta_gen.specs.WellFormedOpcodes.{IsWellFormedOpcodes}

-- The declarations are valid, and the tables are theirs: well-formed, and the decoding allows exactly what the declarations accept.
-- So are those that `generate` makes.
pub record AreMade (d : InstructionSet) (tables : TableContents) : Type 0 where
  pub valid : IsValid d
  pub tables_of : AreTablesOf d tables
  pub well_formed : IsWellFormedOpcodes tables
  pub acceptance : (op : ℕ) (c e : Option ℕ) (rs vs : List ℕ) → (Allows tables op c e rs vs ↔ AcceptsOpcode d op c e rs vs)
