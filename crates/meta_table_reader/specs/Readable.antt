-- What it means that a text reads as tables.
--     AreShown v t           the tables can be told from their text in this version
--     IsReadIn v text t      the text is that of the tables in this version
--     Reads text t           the text reads as the tables
--     refused_line           what is said of a text that reads as none
use Rattle.std.specs.Prelude.{◌≡◌, ℕ, List, [], ◌∷◌, ◌++◌, All, codes}
use Rattle.meta_gen.specs.WholeTables.{WholeTables}
use Rattle.meta_gen.specs.WellFormed.{IsWellFormed}
use Rattle.meta_table_text.specs.declared.version.Version.{Version}
use Rattle.meta_table_text.specs.Fits.{Fits}
use Rattle.meta_table_text.specs.TableText.{table_text}
use Rattle.meta_table_reader.specs.Shown.{AreShownOpcodes}
use Rattle.meta_table_reader.specs.ShownGroup.{AreShownGroup}

-- all numbers of the tables fit their fields, and the version shows them
pub record AreShown (v : Version) (t : WholeTables) : Type 0 where
  pub opcodes : AreShownOpcodes v t.opcodes
  pub groups : All AreShownGroup t.groups

-- the text is that of the tables in the version: they are well-formed and fit it
pub record IsReadIn (version : Version) (text : List ℕ) (t : WholeTables) : Type 0 where
  pub well_formed : IsWellFormed t
  pub fits : Fits version t
  pub is_text : text ≡ table_text version t

-- the text reads as the tables: it is theirs in some version
pub record Reads (text : List ℕ) (t : WholeTables) : Type 0 where
  pub version : Version
  pub in_version : IsReadIn version text t

-- the line for a text that reads as no tables
abbrev pub refused_line : List ℕ
refused_line = codes "refused" ++ 10 ∷ []
