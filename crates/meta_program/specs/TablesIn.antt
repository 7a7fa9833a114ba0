-- The tables in a version of their text.
--     version_words v        the words that ask for the version
--     BeginWithVersion words words that begin so, with any word for the version
--     AreShownIn, IsShownIn  what is written for tables, and for declarations: the text of the tables, or that they don't fit the version
use Rattle.std.specs.Prelude.{◌≡◌, ℕ, Bool, true, false, List, [], ◌∷◌, ◌++◌, codes}
use Rattle.meta_build.specs.AllDeclared.{Declared}
use Rattle.meta_gen.specs.WholeTables.{WholeTables, AreWholeTablesOf}
use Rattle.meta_run.specs.Run.{Texts}
use Rattle.meta_table_text.specs.Fits.{Fits}
use Rattle.meta_table_text.specs.TableText.{table_text}
use Rattle.meta_table_text.specs.declared.version.Version.{Version}
use Rattle.meta_table_text.specs.declared.version.Version.TheVariants.{One, Two, Three}

-- the number of a version, as a word
abbrev pub version_word : Version → List ℕ
version_word One = codes "1"
version_word Two = codes "2"
version_word Three = codes "3"

-- `--version` and the number
abbrev pub version_words : Version → List (List ℕ)
version_words version = codes "--version" ∷ (version_word version ∷ [])

-- `tables --version` and a word, and any words after it
pub record BeginWithVersion (words : List (List ℕ)) : Type 0 where
  pub version : List ℕ
  pub after : List (List ℕ)
  pub are : words ≡ codes "tables" ∷ (codes "--version" ∷ (version ∷ after))

-- the limits of a version; tables beyond them don't fit it, and all tables fit version 3
abbrev pub limits_of : Version → List ℕ
limits_of One = codes "at most 255 opcodes and 255 type sets, and no second control"
limits_of Two = codes "at most 255 opcodes and 255 type sets"
limits_of Three = codes "all tables"

-- the line for tables that don't fit the version
abbrev pub unfit_line : Version → List ℕ
unfit_line version = codes "unfit: version " ++ (version_word version ++ (codes " holds " ++ (limits_of version ++ 10 ∷ [])))

-- the text of the tables if they fit the version, and else, as a rejection, that they don't
abbrev pub AreShownIn : Version → WholeTables → Bool → List ℕ → Type 0
AreShownIn version tables false out = Fits version tables × (out ≡ table_text version tables)
AreShownIn version tables true out = (Fits version tables → ⊥) × (out ≡ unfit_line version)

-- the same for the tables of the declarations
pub record IsShownIn (version : Version) (d : Declared) (is_rejection : Bool) (out : List ℕ) : Type 0 where
  pub tables : WholeTables
  pub are : AreWholeTablesOf d tables
  pub shown : AreShownIn version tables is_rejection out

abbrev pub shown_in : Version → Texts
shown_in version d input is_rejection out = IsShownIn version d is_rejection out
