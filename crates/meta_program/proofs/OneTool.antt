-- Words ask at most one thing.
use Rattle.std.proofs.Common.{◌≡◌, ◌⊎◌, inl, inr, ℕ, ◌*◌, ◌+◌, ◌==◌, if◌then◌else◌, List, [], ◌∷◌, length, codes}
use Rattle.std.proofs.Common.{refl, sym, ap, ◌∙◌, arith}
use Rattle.meta_query.specs.Command.{command_words, AreWordsOf}
use Rattle.meta_query.specs.declared.command.Command.{Command}
use Rattle.meta_query.specs.declared.command.Command.TheVariants.{Query, Recheck, Tables, Types, Settings, Instructions, Builder, Synth}
use Rattle.meta_asm.specs.Form.{form_name}
use Rattle.meta_asm.specs.declared.form.Form.{Form}
use Rattle.meta_asm.specs.declared.form.Form.TheVariants.{Short, Explicit}
use Rattle.meta_table_text.specs.declared.version.Version.{Version}
use Rattle.meta_table_text.specs.declared.version.Version.TheVariants.{One, Two, Three}
use Rattle.meta_program.specs.TablesIn.{version_words}
use Rattle.meta_program.specs.Tool.{AreToolWords, lone_name, why_words, asm_words}
use Rattle.meta_program.proofs.Words.{first, second, third, after_two, first_letter}
use Rattle.meta_program.specs.declared.tool.Lone.{Lone}
use Rattle.meta_program.specs.declared.tool.Lone.TheVariants as lone
use Rattle.meta_program.specs.declared.tool.Why.{Why}
use Rattle.meta_program.specs.declared.tool.Why.TheVariants.{Untold, Told}
use Rattle.meta_program.specs.declared.tool.Tool.{Tool}
use Rattle.meta_program.specs.declared.tool.Tool.TheVariants.{Run, TablesIn, Explain, Verify, Asm, Flags, Audit, Check, Describe}

-- the first two letters of a word as a number, those of the first and of the second word, and the first letter of the third
abbrev letters_in : List ℕ → ℕ
letters_in [] = 0
letters_in (a ∷ []) = 0
letters_in (a ∷ b ∷ letters) = a * 256 + b

abbrev letters : List (List ℕ) → ℕ
letters words = letters_in (first words)

abbrev second_letters : List (List ℕ) → ℕ
second_letters words = letters_in (second words)

abbrev digit : List (List ℕ) → ℕ
digit words = first_letter (third words)

-- Which tool it is that isn't a command of `run`, by the letters, the count of the words, and the digit of a version. It is 0 for commands.
abbrev tag_at : ℕ → ℕ → ℕ
tag_at l count =
    if l == 30309 then 1 else
    if l == 24947 then 2 else
    if l == 26220 then 3 else
    if l == 24949 then 4 else
    if l == 25448 then 5 else
    if l == 25701 then 7 else
    if l == 25976 then 8 else
    if l == 29793 then (if count == 3 then 6 else 0) else 0

abbrev tag_in : List (List ℕ) → ℕ
tag_in words = tag_at (letters words) (length words)

-- `--why` is one word more
abbrev why_at : ℕ → ℕ → Why
why_at count words = if count == words then Told else Untold

abbrev form_at : ℕ → Form
form_at l = if l == 29544 then Short else Explicit

abbrev version_at : ℕ → Version
version_at d = if d == 49 then One else (if d == 50 then Two else Three)

abbrev tool_of : ℕ → List (List ℕ) → Tool
tool_of tag words =
    if tag == 1 then Verify (why_at 2 (length words)) else
    if tag == 2 then Asm (form_at (second_letters words)) (why_at 3 (length words)) else
    if tag == 3 then Flags else
    if tag == 4 then Audit else
    if tag == 5 then Check else
    if tag == 6 then TablesIn (version_at (digit words)) else
    if tag == 7 then Describe else Explain

abbrev tool_at : List (List ℕ) → Tool
tool_at words = tool_of (tag_in words) words

tag_of_command : (c : Command) → tag_in (command_words c) ≡ 0
tag_of_command Query = refl
tag_of_command Recheck = refl
tag_of_command Tables = refl
tag_of_command Types = refl
tag_of_command Settings = refl
tag_of_command Instructions = refl
tag_of_command Builder = refl
tag_of_command (Synth n) = refl

-- the tool is a command of `run`
record IsCommandOfRun (t : Tool) (words : List (List ℕ)) : Type 0 where
  pub command : Command
  pub is : t ≡ Run command
  pub words_are : AreWordsOf command words
  pub tag : tag_in words ≡ 0

-- it is another, and the words determine it
record IsAt (t : Tool) (words : List (List ℕ)) : Type 0 where
  pub is : t ≡ tool_at words
  pub before : ℕ
  pub tag : tag_in words ≡ before + 1

at : (t : Tool) (words written : List (List ℕ)) (n : ℕ) → words ≡ written → tool_at written ≡ t → tag_in written ≡ n + 1 → IsAt t words
at t words written n e is tag = record { is = sym is ∙ ap tool_at (sym e); before = n; tag = ap tag_in e ∙ tag }

one_of : (t : Tool) (words : List (List ℕ)) → AreToolWords t words → IsCommandOfRun t words ⊎ IsAt t words
one_of (Run c) words h = inl (record { command = c; is = refl; words_are = h; tag = ap tag_in h.are ∙ tag_of_command c })
one_of (TablesIn One) words h = inr (at (TablesIn One) words (codes "tables" ∷ version_words One) 5 h refl refl)
one_of (TablesIn Two) words h = inr (at (TablesIn Two) words (codes "tables" ∷ version_words Two) 5 h refl refl)
one_of (TablesIn Three) words h = inr (at (TablesIn Three) words (codes "tables" ∷ version_words Three) 5 h refl refl)
one_of Explain words h = inr (at Explain words (codes "explain" ∷ []) 7 h refl refl)
one_of (Verify Untold) words h = inr (at (Verify Untold) words (codes "verify" ∷ why_words Untold) 0 h refl refl)
one_of (Verify Told) words h = inr (at (Verify Told) words (codes "verify" ∷ why_words Told) 0 h refl refl)
one_of (Asm Short Untold) words h = inr (at (Asm Short Untold) words (asm_words Short Untold) 1 h refl refl)
one_of (Asm Short Told) words h = inr (at (Asm Short Told) words (asm_words Short Told) 1 h refl refl)
one_of (Asm Explicit Untold) words h = inr (at (Asm Explicit Untold) words (asm_words Explicit Untold) 1 h refl refl)
one_of (Asm Explicit Told) words h = inr (at (Asm Explicit Told) words (asm_words Explicit Told) 1 h refl refl)
one_of Flags words h = inr (at Flags words (codes "flags" ∷ []) 2 h refl refl)
one_of Audit words h = inr (at Audit words (codes "audit" ∷ []) 3 h refl refl)
one_of Check words h = inr (at Check words (codes "check" ∷ []) 4 h refl refl)
one_of Describe words h = inr (at Describe words (codes "describe" ∷ []) 6 h refl refl)

pub same_tool : ((c d : Command) (words : List (List ℕ)) → AreWordsOf c words → AreWordsOf d words → c ≡ d)
    → (t u : Tool) (words : List (List ℕ)) → AreToolWords t words → AreToolWords u words → t ≡ u
same_tool one_command t u words h g = by (one_of t words h) (one_of u words g)
  where
    by : IsCommandOfRun t words ⊎ IsAt t words → IsCommandOfRun u words ⊎ IsAt u words → t ≡ u
    by (inl a) (inl b) = a.is ∙ ap Run (one_command a.command b.command words a.words_are b.words_are) ∙ sym b.is
    by (inl a) (inr b) = let clash : 0 ≡ b.before + 1 = sym a.tag ∙ b.tag in absurd (omega (arith, clash))
    by (inr a) (inl b) = let clash : 0 ≡ a.before + 1 = sym b.tag ∙ a.tag in absurd (omega (arith, clash))
    by (inr a) (inr b) = a.is ∙ sym b.is

-- words with another word where `asm` has a form, or with others after it, don't ask for `asm`
pub other_form : (words : List (List ℕ)) (name word : List ℕ) (after : List (List ℕ)) → words ≡ name ∷ (word ∷ after)
    → ((f : Form) → word ≡ form_name f → ⊥) → (f : Form) (why : Why) → words ≡ asm_words f why → ⊥
other_form words name word after e none f why is = none f (ap second (sym e ∙ is))

pub other_why : (words : List (List ℕ)) (name word : List ℕ) (after : List (List ℕ)) → words ≡ name ∷ (word ∷ after)
    → ((why : Why) → after ≡ why_words why → ⊥) → (f : Form) (why : Why) → words ≡ asm_words f why → ⊥
other_why words name word after e none f why is = none why (ap after_two (sym e ∙ is))

-- words that ask for no command, for no version of tables, for no `verify`, no `asm` and no tool of one word ask nothing
pub asks_none : (words : List (List ℕ)) → ((c : Command) → AreWordsOf c words → ⊥)
    → ((v : Version) → words ≡ codes "tables" ∷ version_words v → ⊥)
    → ((why : Why) → words ≡ codes "verify" ∷ why_words why → ⊥)
    → ((f : Form) (why : Why) → words ≡ asm_words f why → ⊥) → ((l : Lone) → words ≡ lone_name l ∷ [] → ⊥)
    → (tool : Tool) → AreToolWords tool words → ⊥
asks_none words no_command no_version no_verify no_asm no_lone (Run c) h = no_command c h
asks_none words no_command no_version no_verify no_asm no_lone (TablesIn v) h = no_version v h
asks_none words no_command no_version no_verify no_asm no_lone Explain h = no_lone lone.Explain h
asks_none words no_command no_version no_verify no_asm no_lone (Verify why) h = no_verify why h
asks_none words no_command no_version no_verify no_asm no_lone (Asm f why) h = no_asm f why h
asks_none words no_command no_version no_verify no_asm no_lone Flags h = no_lone lone.Flags h
asks_none words no_command no_version no_verify no_asm no_lone Audit h = no_lone lone.Audit h
asks_none words no_command no_version no_verify no_asm no_lone Check h = no_lone lone.Check h
asks_none words no_command no_version no_verify no_asm no_lone Describe h = no_lone lone.Describe h
