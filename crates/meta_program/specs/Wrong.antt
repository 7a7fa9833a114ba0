-- What is wrong with words that ask nothing.
--     IsWrong over wrong        what the list of commands alone doesn't say
--     IsWrongLine .. over line  the line says what is wrong with words over the shared declarations, or a file
use Rattle.std.specs.Prelude.{◌≡◌, ◌≢◌, ◌⊎◌, ℕ, List, [], ◌∷◌, ◌++◌, codes, slice_get, Option, None, Some}
use Rattle.meta_command_line.specs.Misuse.{AreCommandWords}
use Rattle.meta_command_line.specs.Usage.{IsUsageLine}
use Rattle.meta_command_line.specs.declared.manual.CommandForm.{CommandForm}
use Rattle.meta_table_text.specs.declared.version.Version.{Version}
use Rattle.meta_program.specs.declared.plan.Over.{Over}
use Rattle.meta_program.specs.declared.plan.Over.TheVariants.{Shared, File}
use Rattle.meta_program.specs.Names.{rust_word}
use Rattle.meta_program.specs.Over.{IsOption, asked_of, end_word}
use Rattle.meta_program.specs.TablesIn.{version_word, BeginWithVersion}
use Rattle.meta_program.specs.Tool.{AskSomething, why_word}
use Rattle.meta_program.specs.declared.wrong.Wrong.{Wrong}
use Rattle.meta_program.specs.declared.wrong.Wrong.TheVariants.{FileMissing, WordTooMany, NoVersion, NoForm}

-- a file is missing: `-d` or `--declarations` alone, or `check` with no more than options: `check --rust`, `check --`, `check --rust --`
abbrev pub MissFile : List (List ℕ) → Type 0
MissFile words = ((option : List ℕ) × IsOption option × (words ≡ option ∷ []))
    ⊎ ((words ≡ codes "check" ∷ (rust_word ∷ []))
    ⊎ ((words ≡ codes "check" ∷ (end_word ∷ [])) ⊎ (words ≡ codes "check" ∷ (rust_word ∷ (end_word ∷ [])))))

-- a check of a file, and a word more: `check FILE WORD ..`
pub record CheckMore (words : List (List ℕ)) : Type 0 where
  pub path : List ℕ
  pub not_rust : path ≢ rust_word
  pub not_end : path ≢ end_word
  pub word : List ℕ
  pub after : List (List ℕ)
  pub are : words ≡ codes "check" ∷ (path ∷ (word ∷ after))

-- the same, and names are refused: `check --rust FILE WORD ..`
pub record CheckRustMore (words : List (List ℕ)) : Type 0 where
  pub path : List ℕ
  pub not_end : path ≢ end_word
  pub word : List ℕ
  pub after : List (List ℕ)
  pub are : words ≡ codes "check" ∷ (rust_word ∷ (path ∷ (word ∷ after)))

-- the same after `--`: `check -- FILE WORD ..`, and `check --rust -- FILE WORD ..`
pub record CheckEndMore (words : List (List ℕ)) : Type 0 where
  pub path : List ℕ
  pub word : List ℕ
  pub after : List (List ℕ)
  pub are : words ≡ codes "check" ∷ (end_word ∷ (path ∷ (word ∷ after)))

pub record CheckRustEndMore (words : List (List ℕ)) : Type 0 where
  pub path : List ℕ
  pub word : List ℕ
  pub after : List (List ℕ)
  pub are : words ≡ codes "check" ∷ (rust_word ∷ (end_word ∷ (path ∷ (word ∷ after))))

-- the same for a file that is named before: `check --rust WORD ..`
pub record RustMore (words : List (List ℕ)) : Type 0 where
  pub word : List ℕ
  pub after : List (List ℕ)
  pub are : words ≡ codes "check" ∷ (rust_word ∷ (word ∷ after))

-- tables in a version, and a word more: `tables --version N WORD ..`
pub record VersionMore (words : List (List ℕ)) : Type 0 where
  pub version : Version
  pub word : List ℕ
  pub after : List (List ℕ)
  pub are : words ≡ codes "tables" ∷ (codes "--version" ∷ (version_word version ∷ (word ∷ after)))

-- the word at this place, from 0, is the first that is too many after a check of a file, or tables in a version
abbrev pub IsTooManyOfShared : List (List ℕ) → ℕ → Type 0
IsTooManyOfShared words place = ((place ≡ 2) × CheckMore words)
    ⊎ (((place ≡ 3) × (CheckRustMore words ⊎ (CheckEndMore words ⊎ VersionMore words)))
    ⊎ ((place ≡ 4) × CheckRustEndMore words))

-- the same for words that are asked over a file which is named before
abbrev pub IsTooManyOfFile : List (List ℕ) → ℕ → Type 0
IsTooManyOfFile words place = ((place ≡ 2) × RustMore words) ⊎ ((place ≡ 3) × VersionMore words)

abbrev pub IsTooMany : Over → ℕ → Type 0
IsTooMany (Shared words) place = IsTooManyOfShared words.now place
IsTooMany (File path words) place = IsTooManyOfFile words.now place

-- `verify --why`, and a word more: `verify --why WORD ..`
pub record WhyMore (words : List (List ℕ)) : Type 0 where
  pub word : List ℕ
  pub after : List (List ℕ)
  pub are : words ≡ codes "verify" ∷ (why_word ∷ (word ∷ after))

-- the same, or the word at this place is the first that is too many after `verify --why`
abbrev pub IsWordTooMany : Over → ℕ → Type 0
IsWordTooMany over place = IsTooMany over place ⊎ ((place ≡ 2) × WhyMore (asked_of over))

-- `tables --version` and a word that is no version
pub record NameNoVersion (words : List (List ℕ)) : Type 0 where
  pub begin : BeginWithVersion words
  pub none : (version : Version) → begin.version ≢ version_word version

-- the words begin with `asm`
pub record BeginWithAsm (words : List (List ℕ)) : Type 0 where
  pub after : List (List ℕ)
  pub are : words ≡ codes "asm" ∷ after

-- a file is missing; it isn't if one is named
abbrev pub IsFileMissing : Over → Type 0
IsFileMissing (Shared words) = MissFile words.now
IsFileMissing (File path words) = ⊥

-- what is wrong with the words, if they ask nothing
abbrev pub IsWrong : Over → Wrong → Type 0
IsWrong over FileMissing = IsFileMissing over
IsWrong over (WordTooMany place) = IsWordTooMany over place
IsWrong over NoVersion = NameNoVersion (asked_of over)
IsWrong over NoForm = BeginWithAsm (asked_of over)

-- that, or the list of commands says what is wrong
abbrev pub IsWrongIfAny : Over → Option Wrong → Type 0
IsWrongIfAny over (Some wrong) = IsWrong over wrong
IsWrongIfAny over None = (wrong : Wrong) → IsWrong over wrong → ⊥

-- a file is missing for the first word
pub record SaysFileMissing (words : List (List ℕ)) (line : List ℕ) : Type 0 where
  pub name : List ℕ
  pub first : slice_get words 0 ≡ Some name
  pub is : line ≡ codes "a file is missing for '" ++ (name ++ codes "'")

-- the line is that of two words: the first word, and the word at this place
pub record SaysTooMany (commands : List CommandForm) (words : List (List ℕ)) (place : ℕ) (line : List ℕ) : Type 0 where
  pub name : List ℕ
  pub first : slice_get words 0 ≡ Some name
  pub word : List ℕ
  pub at : slice_get words place ≡ Some word
  pub is : IsUsageLine commands (name ∷ (word ∷ [])) line

-- the line says what is wrong, if these are the commands
abbrev pub Says : List CommandForm → List (List ℕ) → Option Wrong → List ℕ → Type 0
Says commands words (Some FileMissing) line = SaysFileMissing words line
Says commands words (Some (WordTooMany place)) line = SaysTooMany commands words place line
Says commands words (Some NoVersion) line = line ≡ codes "the versions of 'tables' are 1, 2 and 3"
Says commands words (Some NoForm) line = line ≡ codes "the forms of 'asm' are short and explicit, each alone or with --why after it"
Says commands words None line = IsUsageLine commands words line

-- the line says what is wrong with the words
pub record IsWrongLine (commands : List CommandForm) (over : Over) (line : List ℕ) : Type 0 where
  pub wrong : Option Wrong
  pub is_wrong : IsWrongIfAny over wrong
  pub says : Says commands (asked_of over) wrong line

-- words of these commands ask something, but for `asm` alone
abbrev pub AskWhatIsListed : List CommandForm → Type 0
AskWhatIsListed commands = (words : List (List ℕ)) → AreCommandWords commands words → AskSomething words ⊎ (words ≡ codes "asm" ∷ [])
