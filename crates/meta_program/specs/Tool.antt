-- What can be asked over declarations, and how.
--     AreToolWords tool words       the words ask this
--     BeginWithNameOf commands words    the first word is the name of one of the commands
--     IsToolList commands           their names are plain and differ, and each begins words that ask something
--     HaveWordAfter words          a word that is no number comes after the name: a form of `asm`, a version of the tables, or `--why`
--     texts_of tool                 the texts that answer it
use Rattle.std.specs.Prelude.{◌≡◌, ◌⊎◌, ℕ, Bool, true, false, List, [], ◌∷◌, codes, map, slice_get, Some}
use Rattle.meta_types.specs.SharedNames.{AreDifferentNames}
use Rattle.meta_command_line.specs.Usage.{ArePlainlyNamed}
use Rattle.meta_command_line.specs.declared.manual.CommandForm.{CommandForm}
use Rattle.meta_run.specs.Run.{Texts, Outputs, never_rejecting}
use Rattle.meta_query.specs.Command.{AreWordsOf}
use Rattle.meta_query.specs.Run as query
use Rattle.meta_query_lines.specs.Explained.{IsExplainedOutput}
use Rattle.meta_verify.specs.Verifier.{verdicts}
use Rattle.meta_verify.specs.Why.{explained_verdicts}
use Rattle.meta_asm.specs.Form.{form_name, written_in}
use Rattle.meta_asm.specs.Why.{explained_in}
use Rattle.meta_asm.specs.declared.form.Form.{Form}
use Rattle.meta_flags.specs.FlagsOutput.{IsFlagsOutput}
use Rattle.meta_audit.specs.AuditLine.{IsAuditLine}
use Rattle.meta_program.specs.TablesIn.{version_words, shown_in}
use Rattle.meta_program.specs.Counts.{IsCheckLine}
use Rattle.meta_program.specs.Described.{described}
use Rattle.meta_table_text.specs.declared.version.Version.{Version}
use Rattle.meta_program.specs.declared.tool.Lone.{Lone}
use Rattle.meta_program.specs.declared.tool.Lone.TheVariants as lone
use Rattle.meta_program.specs.declared.tool.Why.{Why}
use Rattle.meta_program.specs.declared.tool.Why.TheVariants.{Untold, Told}
use Rattle.meta_program.specs.declared.tool.Tool.{Tool}
use Rattle.meta_program.specs.declared.tool.Tool.TheVariants.{Run, TablesIn, Explain, Verify, Asm, Flags, Audit, Check, Describe}

-- the name of a tool that has one word
abbrev pub lone_name : Lone → List ℕ
lone_name lone.Explain = codes "explain"
lone_name lone.Flags = codes "flags"
lone_name lone.Audit = codes "audit"
lone_name lone.Check = codes "check"
lone_name lone.Describe = codes "describe"

-- the word after which a refused line says why
abbrev pub why_word : List ℕ
why_word = codes "--why"

-- the words that ask what is said of a refused line: none, or this word
abbrev pub why_words : Why → List (List ℕ)
why_words Untold = []
why_words Told = why_word ∷ []

-- the words of `asm`: its name, a form, and these
abbrev pub asm_words : Form → Why → List (List ℕ)
asm_words form why = codes "asm" ∷ (form_name form ∷ why_words why)

-- the words ask this: a command of `run` has its own words, `asm` its name and a form, and `tables` may have a version; `verify` and `asm`
-- may have `--why` as their last word
abbrev pub AreToolWords : Tool → List (List ℕ) → Type 0
AreToolWords (Run command) words = AreWordsOf command words
AreToolWords (TablesIn version) words = words ≡ codes "tables" ∷ version_words version
AreToolWords Explain words = words ≡ codes "explain" ∷ []
AreToolWords (Verify why) words = words ≡ codes "verify" ∷ why_words why
AreToolWords (Asm form why) words = words ≡ asm_words form why
AreToolWords Flags words = words ≡ codes "flags" ∷ []
AreToolWords Audit words = words ≡ codes "audit" ∷ []
AreToolWords Check words = words ≡ codes "check" ∷ []
AreToolWords Describe words = words ≡ codes "describe" ∷ []

-- the words ask something
abbrev pub AskSomething : List (List ℕ) → Type 0
AskSomething words = (tool : Tool) × AreToolWords tool words

-- the first word is the name of one of the commands
abbrev pub BeginWithNameOf : List CommandForm → List (List ℕ) → Type 0
BeginWithNameOf commands words = (k : ℕ) × (command : CommandForm) × (after : List (List ℕ))
    × (slice_get commands k ≡ Some command) × (words ≡ command.name.now ∷ after)

-- the names of the commands are plain and differ, and each begins words that ask something
pub record IsToolList (commands : List CommandForm) : Type 0 where
  pub plain : ArePlainlyNamed commands
  pub once : AreDifferentNames (map (λ (command : CommandForm). command.name.now) commands)
  pub only : (k : ℕ) (command : CommandForm) → slice_get commands k ≡ Some command
      → (after : List (List ℕ)) × AskSomething (command.name.now ∷ after)

-- a word that is no number comes after the name: a form of `asm`, a version of the tables, or `--why` of `verify`
abbrev pub HaveWordAfter : List (List ℕ) → Type 0
HaveWordAfter words = ((form : Form) × (why : Why) × (words ≡ asm_words form why))
    ⊎ (((version : Version) × (words ≡ codes "tables" ∷ version_words version)) ⊎ (words ≡ codes "verify" ∷ why_words Told))

-- whether there is an input
abbrev pub reads_input : Tool → Bool
reads_input (Run command) = query.has_input command
reads_input (TablesIn version) = false
reads_input Explain = true
reads_input (Verify why) = true
reads_input (Asm form why) = true
reads_input Flags = true
reads_input Audit = true
reads_input Check = false
reads_input Describe = false

-- for valid declarations the text says how much of each kind there is
abbrev pub says_counts : Outputs
says_counts d input output = IsCheckLine d output

-- the texts that answer an input over declarations: those of the programs of these names, for `check` the line that begins with `ok`, and
-- for `describe` a file that declares the same
abbrev pub texts_of : Tool → Texts
texts_of (Run command) = never_rejecting (query.IsOutputOf command)
texts_of (TablesIn version) = shown_in version
texts_of Explain = never_rejecting IsExplainedOutput
texts_of (Verify Untold) = verdicts
texts_of (Verify Told) = explained_verdicts
texts_of (Asm form Untold) = written_in form
texts_of (Asm form Told) = explained_in form
texts_of Flags = never_rejecting IsFlagsOutput
texts_of Audit = never_rejecting IsAuditLine
texts_of Check = never_rejecting says_counts
texts_of Describe = described
