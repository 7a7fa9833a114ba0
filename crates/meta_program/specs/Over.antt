-- What words are asked over.
--     AskOverFile words path asked     they ask this over the file at this path
--     IsOver words over          the words are asked over this
--     path_of over, asked_of over    the file that it names, if it names one, and what is asked of its declarations
use Rattle.std.specs.Prelude.{◌≡◌, ◌≢◌, ◌⊎◌, ℕ, List, [], ◌∷◌, ◌++◌, codes, Option, Some, None}
use Rattle.meta_program.specs.Names.{rust_word, check_words}
use Rattle.meta_program.specs.declared.plan.Names.{Names}
use Rattle.meta_program.specs.declared.plan.Names.TheVariants.{Warn, Refuse}
use Rattle.meta_program.specs.declared.plan.Over.{Over}
use Rattle.meta_program.specs.declared.plan.Over.TheVariants.{Shared, File}

-- the word says that a file follows
abbrev pub IsOption : List ℕ → Type 0
IsOption word = (word ≡ codes "-d") ⊎ (word ≡ codes "--declarations")

-- the word says so, and has the path of the file: `-d=FILE` or `--declarations=FILE`
abbrev pub IsOptionWith : List ℕ → List ℕ → Type 0
IsOptionWith word path = (word ≡ codes "-d=" ++ path) ⊎ (word ≡ codes "--declarations=" ++ path)

-- the word that ends the options of a check: the word after it is a file, whatever it begins with
abbrev pub end_word : List ℕ
end_word = codes "--"

-- the path that stands for standard input in a check
abbrev pub input_path : List ℕ
input_path = codes "-"

-- the words name the file at this path, and these come after it: `-d FILE WORDS` or `-d=FILE WORDS`
abbrev pub NameFile : List (List ℕ) → List ℕ → List (List ℕ) → Type 0
NameFile words path asked = ((option : List ℕ) × IsOption option × (words ≡ option ∷ (path ∷ asked)))
    ⊎ ((word : List ℕ) × IsOptionWith word path × (words ≡ word ∷ asked))

-- the path is no option of such a check
abbrev pub IsNoOption : Names → List ℕ → Type 0
IsNoOption Warn path = (path ≢ end_word) × (path ≢ rust_word)
IsNoOption Refuse path = path ≢ end_word

-- the words are such a check of the file at this path: `check FILE` or `check --rust FILE`, in which FILE is no option, or either with `--`
-- before FILE, which may then be any word
abbrev pub CheckFile : List (List ℕ) → List ℕ → Names → Type 0
CheckFile words path names = (IsNoOption names path × (words ≡ check_words names ++ (path ∷ [])))
    ⊎ (words ≡ check_words names ++ (end_word ∷ (path ∷ [])))

-- the words ask this over the declarations of the file at this path
abbrev pub AskOverFile : List (List ℕ) → List ℕ → List (List ℕ) → Type 0
AskOverFile words path asked = NameFile words path asked
    ⊎ ((names : Names) × CheckFile words path names × (asked ≡ check_words names))

-- the words ask this of a file, or they ask nothing of any file and all of them are for the shared declarations
abbrev pub IsOver : List (List ℕ) → Over → Type 0
IsOver words (File path asked) = AskOverFile words path.now asked.now
IsOver words (Shared asked) = (asked.now ≡ words) × ((path : List ℕ) (others : List (List ℕ)) → AskOverFile words path others → ⊥)

-- the path of the file, if there is one, and what is asked
abbrev pub path_of : Over → Option (List ℕ)
path_of (File path asked) = Some path.now
path_of (Shared asked) = None

abbrev pub asked_of : Over → List (List ℕ)
asked_of (File path asked) = asked.now
asked_of (Shared asked) = asked.now
