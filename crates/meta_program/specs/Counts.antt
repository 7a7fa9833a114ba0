-- How much of each kind there is, as `check` says it of valid declarations.
--     check_line ..          the line, by the numbers
--     IsCheckLine d line     the line has the numbers of the declarations and of their tables
use Rattle.std.specs.Prelude.{◌≡◌, ◌+◌, ℕ, List, [], ◌∷◌, ◌++◌, length, codes}
use Rattle.std.specs.Fmt.{decimal}
use Rattle.meta_settings.specs.GroupDeclaration.{GroupDeclaration, entry_count}
use Rattle.meta_settings.specs.Layout.{Layout}
use Rattle.meta_setting_tables.specs.FoundSetting.{laid_entry_count}
use Rattle.meta_build.specs.AllDeclared.{Declared}
use Rattle.meta_gen.specs.WholeTables.{WholeTables, AreWholeTablesOf}

-- how many settings and presets all of these groups have together, and the same for groups that are built
abbrev pub entries_in : List GroupDeclaration → ℕ
entries_in [] = 0
entries_in (g ∷ gs) = entry_count g + entries_in gs

abbrev pub laid_entries_in : List Layout → ℕ
laid_entries_in [] = 0
laid_entries_in (g ∷ gs) = laid_entry_count g + laid_entries_in gs

-- the line, with its end: how many instructions, formats, type sets, operand constraints, and settings and presets there are
unfoldable pub check_line : ℕ → ℕ → ℕ → ℕ → ℕ → List ℕ
check_line instructions formats type_sets constraints entries =
    codes "ok: " ++ (decimal instructions
    ++ (codes " instructions, " ++ (decimal formats
    ++ (codes " formats, " ++ (decimal type_sets
    ++ (codes " type sets, " ++ (decimal constraints
    ++ (codes " constraints, " ++ (decimal entries ++ (codes " settings and presets" ++ 10 ∷ []))))))))))

-- the line, by the declarations and tables: the tables give how many distinct type sets there are, and how long the one list of operand
-- constraints is
abbrev pub line_of_counts : Declared → WholeTables → List ℕ
line_of_counts d t =
    check_line (length d.set.instructions) (length d.set.formats) (length t.opcodes.type_sets) (length t.opcodes.operand_constraints)
    (entries_in d.groups)

-- the line has the numbers of the declarations and of their tables
pub record IsCheckLine (d : Declared) (line : List ℕ) : Type 0 where
  pub tables : WholeTables
  pub are : AreWholeTablesOf d tables
  pub is : line ≡ line_of_counts d tables
