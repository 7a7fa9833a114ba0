-- Lists of lines, and of their short forms.
--     AreShort R M env lines texts env'      after lines that define env these lead to env', and the texts are their short forms
--     IsShortened, IsSpelled                 what the lines of an input are written as, in the short form and in the explicit one
use Rattle.std.specs.Prelude.{◌≡◌, ◌≢◌, ◌⊎◌, ℕ, ◌+◌, Bool, true, false, List, [], ◌∷◌, ◌++◌, take, slice_get, Some}
use Rattle.std.specs.List.{flat_map}
use Rattle.meta_inst.specs.Tables.{TableContents}
use Rattle.meta_lines.specs.Lines.{lines_of}
use Rattle.meta_verify.specs.Statement.{defined_by}
use Rattle.meta_verify.specs.Environment.{Environment, nothing_defined, with_values}
use Rattle.meta_verify.specs.Wrong.{Replies}
use Rattle.meta_verify.specs.Verdict.{wrong_text, IsFirstWrong}
use Rattle.meta_verify.specs.declared.reason.Reason.{Reason}
use Rattle.meta_verify.specs.declared.reason.Reason.TheVariants.{Bad}
use Rattle.meta_asm.specs.Reading.{Manners, IsShort, ReadsAs, IsShortIn}

-- the lines, each with LF
abbrev pub text_of_lines : List (List ℕ) → List ℕ
text_of_lines lines = flat_map (λ (line : List ℕ). line ++ 10 ∷ []) lines

-- the lines that aren't empty
abbrev pub filled : List (List ℕ) → List (List ℕ)
filled [] = []
filled ([] ∷ lines) = filled lines
filled ((c ∷ cs) ∷ lines) = (c ∷ cs) ∷ filled lines

-- After lines that define env, these are right, one after the other, and each text is the short form of its line. The lines lead to env'.
abbrev pub AreShort : Replies → Manners → Environment → List (List ℕ) → List (List ℕ) → Environment → Type 0
AreShort R M env [] [] env' = env' ≡ env
AreShort R M env [] (text ∷ texts) env' = ⊥
AreShort R M env (line ∷ lines) [] env' = ⊥
AreShort R M env (line ∷ lines) (text ∷ texts) env' =
    (short : IsShort R M env line text) × AreShort R M (with_values env (defined_by short.statement)) lines texts env'

-- the same for a whole list
abbrev pub AreShortForms : Replies → Manners → List (List ℕ) → List (List ℕ) → Type 0
AreShortForms R M lines texts = (env : Environment) × AreShort R M nothing_defined lines texts env

-- The text at this place, from 0, reads as no line after those that the texts before it read as. It isn't empty.
pub record IsFirstUnread (R : Replies) (M : Manners) (texts : List (List ℕ)) (n : ℕ) : Type 0 where
  pub text : List ℕ
  pub at : slice_get texts n ≡ Some text
  pub some : text ≢ []
  pub lines : List (List ℕ)
  pub before : Environment
  pub reads : AreShort R M nothing_defined lines (filled (take n texts)) before
  pub unread : (line : List ℕ) → ReadsAs R M before text line → ⊥

-- The short forms of the lines of an input, or, as a rejection, which is the first wrong one, and why.
abbrev pub IsShortened : Replies → Manners → List ℕ → Bool → List ℕ → Type 0
IsShortened R M input false text =
    (texts : List (List ℕ)) × AreShortForms R M (filled (lines_of input)) texts × (text ≡ text_of_lines texts)
IsShortened R M input true text =
    (n : ℕ) × (reason : Reason) × IsFirstWrong R (lines_of input) n reason × (text ≡ wrong_text (n + 1) reason)

-- The lines that those of an input read as, or, as a rejection, which is the first that reads as no line.
abbrev pub IsSpelled : Replies → Manners → List ℕ → Bool → List ℕ → Type 0
IsSpelled R M input false text = (lines : List (List ℕ)) × AreShortForms R M lines (filled (lines_of input)) × (text ≡ text_of_lines lines)
IsSpelled R M input true text = (n : ℕ) × IsFirstUnread R M (lines_of input) n × (text ≡ wrong_text (n + 1) Bad)

-- ---- one line, by tables

-- An empty line is skipped. Another line is right, its short form and LF are added, and what it defines is defined.
abbrev pub AddsShortForm : TableContents → Environment → List ℕ → Environment → List ℕ → List ℕ → Type 0
AddsShortForm tables env line env' out out' =
    ((line ≡ []) × (env' ≡ env) × (out' ≡ out))
    ⊎ ((text : List ℕ) × (short : IsShortIn tables env line text) × (line ≢ [])
    × (env' ≡ with_values env (defined_by short.statement)) × (out' ≡ out ++ (text ++ 10 ∷ [])))

-- An empty text is skipped. For another text the line that it reads as is added, with LF, and what that line defines is defined.
abbrev pub AddsLine : TableContents → Environment → List ℕ → Environment → List ℕ → List ℕ → Type 0
AddsLine tables env text env' out out' =
    ((text ≡ []) × (env' ≡ env) × (out' ≡ out))
    ⊎ ((line : List ℕ) × (short : IsShortIn tables env line text) × (text ≢ [])
    × (env' ≡ with_values env (defined_by short.statement)) × (out' ≡ out ++ (line ++ 10 ∷ [])))
