-- What is said of a list of lines.
--     LeadTo R env lines env'                  after lines that define env, these lead to env'
--     IsAnsweredAt R lines n answer            the answer to line n, after those before it
--     IsVerdict R input is_rejection text      the text says whether the input is right, or which line is the first wrong one, and why
use Rattle.std.specs.Prelude.{◌≡◌, ℕ, ◌+◌, ◌<◌, Bool, true, false, List, [], ◌∷◌, ◌++◌, take, length, slice_get, Option, None, Some, codes}
use Rattle.std.specs.Fmt.{decimal}
use Rattle.meta_lines.specs.Lines.{lines_of}
use Rattle.meta_verify.specs.Environment.{Environment, nothing_defined}
use Rattle.meta_verify.specs.Reason.{reason_text}
use Rattle.meta_verify.specs.Wrong.{Replies, Feeds}
use Rattle.meta_verify.specs.declared.reason.Reason.{Reason}

-- The environment after lines, which come after others that define env: each right line adds what it defines, and a wrong one nothing.
abbrev pub LeadTo : Replies → Environment → List (List ℕ) → Environment → Type 0
LeadTo R env [] env' = env' ≡ env
LeadTo R env (line ∷ lines) env' =
    (answer : Option Reason) × (between : Environment) × Feeds R env line answer between × LeadTo R between lines env'

-- the line at this place, from 0, has this answer after the lines before it
pub record IsAnsweredAt (R : Replies) (lines : List (List ℕ)) (n : ℕ) (answer : Option Reason) : Type 0 where
  pub line : List ℕ
  pub at : slice_get lines n ≡ Some line
  pub before : Environment
  pub leads : LeadTo R nothing_defined (take n lines) before
  pub after : Environment
  pub fed : Feeds R before line answer after

-- the line at this place is wrong, for this reason
abbrev pub IsWrongAt : Replies → List (List ℕ) → ℕ → Reason → Type 0
IsWrongAt R lines n reason = IsAnsweredAt R lines n (Some reason)

-- each of the first `count` lines is right, or empty, and none of them is wrong
pub record AreRightTo (R : Replies) (lines : List (List ℕ)) (count : ℕ) : Type 0 where
  pub each : (n : ℕ) → n < count → IsAnsweredAt R lines n None
  pub none_wrong : (n : ℕ) (reason : Reason) → n < count → IsWrongAt R lines n reason → ⊥

-- the same for all of them
abbrev pub AreRight : Replies → List (List ℕ) → Type 0
AreRight R lines = AreRightTo R lines (length lines)

-- this line is wrong, for this reason, and none before it is
pub record IsFirstWrong (R : Replies) (lines : List (List ℕ)) (n : ℕ) (reason : Reason) : Type 0 where
  pub wrong : IsWrongAt R lines n reason
  pub before : AreRightTo R lines n

-- the text if no line is wrong
abbrev pub right_text : List ℕ
right_text = codes "ok" ++ 10 ∷ []

-- how the text on the first wrong line begins: its number, which counts from 1, and why it is wrong
abbrev pub wrong_front : ℕ → Reason → List ℕ
wrong_front number reason = codes "line " ++ (decimal number ++ (codes ": " ++ reason_text reason))

-- the text on the first wrong line
abbrev pub wrong_text : ℕ → Reason → List ℕ
wrong_text number reason = wrong_front number reason ++ 10 ∷ []

-- the text on an input; it is a rejection if a line is wrong
abbrev pub IsVerdict : Replies → List ℕ → Bool → List ℕ → Type 0
IsVerdict R input false text = AreRight R (lines_of input) × (text ≡ right_text)
IsVerdict R input true text = (n : ℕ) × (reason : Reason) × IsFirstWrong R (lines_of input) n reason × (text ≡ wrong_text (n + 1) reason)
