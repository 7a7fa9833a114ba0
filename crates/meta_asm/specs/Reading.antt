-- The short form of a line, and which line a text reads as. R says what is replied to questions, and M in which manner the lines of the
-- instruction of a name are written: the tables, or the declarations.
--     IsShort R M env line text       after lines that define env the line is right, and the text is its short form
--     ReadsAs R M env text line       after them the text reads as the line
--     IsShortIn tables, IsShortDeclared d       the same by tables, and as declarations mean
use Rattle.std.specs.Prelude.{◌≡◌, ⊤, ℕ, List}
use Rattle.meta_inst.specs.InstructionSet.{InstructionSet}
use Rattle.meta_inst.specs.Tables.{TableContents}
use Rattle.meta_gen.specs.Reply.{AllowedReply, AcceptedReply}
use Rattle.meta_verify.specs.Statement.{Statement, OfParameter, OfApplication}
use Rattle.meta_verify.specs.Environment.{Environment}
use Rattle.meta_verify.specs.Wrong.{Replies, IsRight}
use Rattle.meta_asm.specs.Short.{Manner, short_text}
use Rattle.meta_asm.specs.Manners.{IsMannerIn, IsMannerDeclared}

-- who says in which manner the lines of the instruction of a name are written
abbrev pub Manners : Type 1
Manners = List ℕ → Manner → Type 0

-- what is stated is written in this manner: a parameter in any
abbrev pub HasManner : Manners → Statement → Manner → Type 0
HasManner M (OfParameter r) m = ⊤
HasManner M (OfApplication a) m = M a.name m

-- after lines that define env the line is right, and the text is what it states, with the types left out that its manner leaves out
pub record IsShort (R : Replies) (M : Manners) (env : Environment) (line text : List ℕ) : Type 0 where
  pub statement : Statement
  pub right : IsRight R env line statement
  pub manner : Manner
  pub has_manner : HasManner M statement manner
  pub is : text ≡ short_text manner statement

-- the text reads as the line: no reason holds of the line, and the text is its short form
abbrev pub ReadsAs : Replies → Manners → Environment → List ℕ → List ℕ → Type 0
ReadsAs R M env text line = IsShort R M env line text

-- by tables
abbrev pub IsShortIn : TableContents → Environment → List ℕ → List ℕ → Type 0
IsShortIn tables env line text = IsShort (AllowedReply tables) (IsMannerIn tables) env line text

abbrev pub ReadsIn : TableContents → Environment → List ℕ → List ℕ → Type 0
ReadsIn tables env text line = IsShortIn tables env line text

-- as declarations mean
abbrev pub IsShortDeclared : InstructionSet → Environment → List ℕ → List ℕ → Type 0
IsShortDeclared d env line text = IsShort (AcceptedReply d) (IsMannerDeclared d) env line text

abbrev pub ReadsDeclared : InstructionSet → Environment → List ℕ → List ℕ → Type 0
ReadsDeclared d env text line = IsShortDeclared d env line text
