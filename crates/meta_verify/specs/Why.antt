-- What is told of a line that is refused: which part of what it asks is the first that fails, and what that part has to be.
--     IsToldOf tables env a more               why the opcode of the name doesn't accept what is stated
--     IsTold tables env line reason more       what is told of a wrong line after its reason
--     IsExplainedVerdict R tables input is_rejection text      the verdict on an input, with what is told of a refusal
use Rattle.std.specs.Prelude.{◌≡◌, ℕ, ◌+◌, Bool, true, false, List, [], ◌∷◌, ◌++◌, map, length, slice_get, Option, None, Some, codes}
use Rattle.std.specs.Option.{option_map}
use Rattle.meta_lists.specs.First.{IsFirst}
use Rattle.meta_types.specs.TypeParts.{TypeParts, number_of}
use Rattle.meta_inst.specs.Tables.{TableContents}
use Rattle.meta_lines.specs.Lines.{lines_of}
use Rattle.meta_gen.specs.Contents.{IsOpcodeNamed}
use Rattle.meta_gen.specs.Question.{Question}
use Rattle.meta_gen.specs.Reply.{AllowedReply, AcceptedReply}
use Rattle.meta_gen.specs.TablesOf.{AreTablesOf}
use Rattle.meta_explain.specs.Texts.{place_text, held_text, wants_text}
use Rattle.meta_explain.specs.Wanted.{IsExplained}
use Rattle.meta_explain.specs.declared.control_types.ControlTypes.{ControlTypes}
use Rattle.meta_explain.specs.declared.part.Part.{Part}
use Rattle.meta_explain.specs.declared.part.Part.TheVariants.{Operand}
use Rattle.meta_explain.specs.declared.explained.Wanted.{Wanted}
use Rattle.meta_explain.specs.declared.explained.Explained.{Explained}
use Rattle.meta_explain.specs.declared.explained.Explained.TheVariants.{Refuse}
use Rattle.meta_run.specs.Run.{Texts}
use Rattle.meta_verify.specs.Statement.{TypedValue, Application, OfApplication, IsStatement, value_text}
use Rattle.meta_verify.specs.Environment.{Environment, HaveTypes}
use Rattle.meta_verify.specs.Wrong.{Replies, question_of, IsMistake}
use Rattle.meta_verify.specs.Verdict.{wrong_front, wrong_text, IsFirstWrong, IsVerdict}
use Rattle.meta_verify.specs.Verifier.{verdicts}
use Rattle.meta_verify.specs.declared.reason.Reason.{Reason}
use Rattle.meta_verify.specs.declared.reason.Reason.TheVariants.{Refused}
use Rattle.meta_verify.specs.declared.verdict.WrongLine.{WrongLine}

-- what is asked, by the numbers of the types
abbrev pub controls_asked : Question → ControlTypes
controls_asked q = record { ctrl = option_map number_of q.control; second = option_map number_of q.second }

-- x says whether the opcode accepts what is asked, and why it doesn't
abbrev pub ExplainsAsked : TableContents → ℕ → Question → Explained → Type 0
ExplainsAsked tables op q x = IsExplained tables op (controls_asked q) (map number_of q.results) (map number_of q.values) x

-- the value that stands at a part of what an application asks: a result or a value, where the part is an operand
abbrev pub value_at : Application → Part → Option ℕ
value_at a (Operand k) = slice_get (map (λ (r : TypedValue). r.value) a.results ++ a.values) k
value_at a part = None

-- a value and a space, if there is one
abbrev pub value_part : Option ℕ → List ℕ
value_part None = []
value_part (Some v) = value_text v ++ 32 ∷ []

-- ` value 1: v4 has i64, wants i32`, or ` results: has 2, wants 1`; the types that are asked of, by their numbers
abbrev pub refusal_text : Application → ControlTypes → List ℕ → List ℕ → Part → Wanted → List ℕ
refusal_text a c rs vs part wanted =
    32 ∷ (place_text part (length a.results) ++ (codes ": " ++ (value_part (value_at a part)
    ++ (held_text part c rs vs ++ (codes ", " ++ wants_text wanted)))))

-- the tables refuse what the application states, and no reason before that holds
abbrev pub IsRefusedIn : TableContents → Environment → Application → Type 0
IsRefusedIn tables env a = IsMistake (AllowedReply tables) env (OfApplication a) Refused

-- The values have types, an opcode has the name, and `more` tells the part that is the first to fail there, and what it has to be.
pub record IsToldOf (tables : TableContents) (env : Environment) (a : Application) (more : List ℕ) : Type 0 where
  pub types : List TypeParts
  pub have : HaveTypes env a.values types
  pub opcode : ℕ
  pub named : IsFirst (IsOpcodeNamed tables.names a.name) opcode
  pub part : Part
  pub wanted : Wanted
  pub explained : ExplainsAsked tables opcode (question_of a types) (Refuse part wanted)
  pub is : more ≡ refusal_text a (controls_asked (question_of a types)) (map number_of (question_of a types).results)
      (map number_of types) part wanted

-- What is told after the reason for which a line is wrong: of a refused line why it is refused, and of another nothing.
abbrev pub IsTold : TableContents → Environment → List ℕ → Reason → List ℕ → Type 0
IsTold tables env line Refused more = (a : Application) × IsStatement line (OfApplication a) × IsToldOf tables env a more
IsTold tables env line reason more = more ≡ []

-- the text on the first wrong line, with what is told after the reason
abbrev pub explained_text : ℕ → Reason → List ℕ → List ℕ
explained_text number reason more = wrong_front number reason ++ (more ++ 10 ∷ [])

-- The line at hand is the first wrong one, for this reason, and the lines before it lead to env.
pub record IsFoundWrong (R : Replies) (lines : List (List ℕ)) (env : Environment) (wrong : WrongLine) : Type 0 where
  pub place : ℕ
  pub number : wrong.number ≡ place + 1
  pub first : IsFirstWrong R lines place wrong.reason
  pub line : first.wrong.line ≡ wrong.line.now
  pub before : first.wrong.before ≡ env

-- The verdict on an input. If it is a rejection, more is told after the reason, by the tables.
abbrev pub IsExplainedVerdict : Replies → TableContents → List ℕ → Bool → List ℕ → Type 0
IsExplainedVerdict R tables input false text = IsVerdict R input false text
IsExplainedVerdict R tables input true text =
    (n : ℕ) × (reason : Reason) × (first : IsFirstWrong R (lines_of input) n reason) × (more : List ℕ)
    × IsTold tables first.wrong.before first.wrong.line reason more × (text ≡ explained_text (n + 1) reason more)

-- The text on an input over declarations, as they mean. What is told of a refusal is told by their tables.
abbrev pub explained_verdicts : Texts
explained_verdicts d input false text = verdicts d input false text
explained_verdicts d input true text =
    (tables : TableContents) × AreTablesOf d.set tables × IsExplainedVerdict (AcceptedReply d.set) tables input true text

-- the text is the plain one with more after the reason, which only `refused` has
abbrev pub TellsMore : List ℕ → List ℕ → Type 0
TellsMore plain text =
    (number : ℕ) × (reason : Reason) × (more : List ℕ) × (plain ≡ wrong_text number reason) × (text ≡ explained_text number reason more)
    × ((reason ≡ Refused → ⊥) → more ≡ [])
