-- What the words of the program ask for.
--     AskOfItself words asked     what they ask of the program itself
--     IsPlan words plan           all that they ask for
use Rattle.std.specs.Prelude.{◌≡◌, ◌≢◌, ◌⊎◌, ⊤, ℕ, List, [], ◌∷◌, ◌++◌, Option, None, Some}
use Rattle.meta_command_line.specs.Asked.{AsksFor}
use Rattle.meta_command_line.specs.declared.asked.Asked.{Asked}
use Rattle.meta_command_line.specs.declared.asked.Asked.TheVariants as asks
use Rattle.meta_program.specs.Over.{AskOverFile, IsOver, path_of, asked_of, end_word, input_path}
use Rattle.meta_program.specs.TablesIn.{BeginWithVersion}
use Rattle.meta_program.specs.Tool.{AreToolWords, AskSomething}
use Rattle.meta_program.specs.declared.plan.Over.{Over}
use Rattle.meta_program.specs.declared.plan.Over.TheVariants as of_over
use Rattle.meta_program.specs.declared.tool.Tool.{Tool}
use Rattle.meta_program.specs.Names.{check_words}
use Rattle.meta_program.specs.Wrong.{IsWrongIfAny}
use Rattle.meta_program.specs.declared.plan.Names.{Names}
use Rattle.meta_program.specs.declared.plan.Plan.{Plan}
use Rattle.meta_program.specs.declared.plan.Plan.TheVariants.{Help, Version, Shared, File, Check, CheckInput, Nothing}

-- the words begin in this way, or those that they ask of a file do
abbrev pub AskForVersion : List (List ℕ) → Type 0
AskForVersion words = BeginWithVersion words
    ⊎ ((path : List ℕ) × (asked : List (List ℕ)) × AskOverFile words path asked × BeginWithVersion asked)

-- options end before the file of a check: the words begin with `check --` or `check --rust --`
abbrev pub EndOptions : List (List ℕ) → Type 0
EndOptions words = (names : Names) × (after : List (List ℕ)) × (words ≡ check_words names ++ (end_word ∷ after))

-- what asks for help or the version of the program in other words, asks nothing of the program itself in these: `--version` is a word of
-- `tables`, or options end
abbrev pub AreForWork : List (List ℕ) → Type 0
AreForWork words = AskForVersion words ⊎ EndOptions words

-- what the words ask of the program itself
abbrev pub AskOfItself : List (List ℕ) → Asked → Type 0
AskOfItself words asked = (AreForWork words × (asked ≡ asks.Work)) ⊎ ((AreForWork words → ⊥) × AsksFor words asked)

-- what is asked is no check of a file
abbrev pub IsNoCheck : Over → Type 0
IsNoCheck (of_over.Shared asked) = ⊤
IsNoCheck (of_over.File path asked) = (names : Names) → asked.now ≢ check_words names

-- What the words ask for: a tool over the shared declarations exactly if they ask nothing of a file; a check of a file exactly if what they
-- ask of it are the words of a check, and of standard input if its path is `-`; else a tool over the file; and nothing exactly if what they
-- ask are the words of no tool and of no check of a file. Then the plan has what is wrong with them.
abbrev pub IsPlan : List (List ℕ) → Plan → Type 0
IsPlan words Help = AskOfItself words asks.Help
IsPlan words Version = AskOfItself words asks.Version
IsPlan words (Shared tool) = AskOfItself words asks.Work × AreToolWords tool words
    × ((path : List ℕ) (others : List (List ℕ)) → AskOverFile words path others → ⊥)
IsPlan words (File path tool) = AskOfItself words asks.Work × (asked : List (List ℕ)) × AskOverFile words path.now asked
    × AreToolWords tool asked × ((names : Names) → asked ≢ check_words names)
IsPlan words (Check path names) = AskOfItself words asks.Work × AskOverFile words path.now (check_words names) × (path.now ≢ input_path)
IsPlan words (CheckInput names) = AskOfItself words asks.Work × AskOverFile words input_path (check_words names)
IsPlan words (Nothing over wrong) = AskOfItself words asks.Work × IsOver words over × (AskSomething (asked_of over) → ⊥) × IsNoCheck over
    × IsWrongIfAny over wrong

-- the parts of a plan: what is asked of the program itself, the path of the file, the tool, and the words that are those of a check or ask
-- nothing
pub record Planned : Type 0 where
  pub asked : Asked
  pub path : Option (List ℕ)
  pub tool : Option Tool
  pub words : List (List ℕ)

abbrev pub planned : Plan → Planned
planned Help = record { asked = asks.Help; path = None; tool = None; words = [] }
planned Version = record { asked = asks.Version; path = None; tool = None; words = [] }
planned (Shared tool) = record { asked = asks.Work; path = None; tool = Some tool; words = [] }
planned (File path tool) = record { asked = asks.Work; path = Some path.now; tool = Some tool; words = [] }
planned (Check path names) = record { asked = asks.Work; path = Some path.now; tool = None; words = check_words names }
planned (CheckInput names) = record { asked = asks.Work; path = Some input_path; tool = None; words = check_words names }
planned (Nothing over wrong) = record { asked = asks.Work; path = path_of over; tool = None; words = asked_of over }
