-- What `recheck` reads and answers.
--     IsCut input text queries              the input is a text and the queries after it
--     IsAnswerBy tables text queries out    how the text compares with these tables, and the answers of the tables that it reads as
--     IsRecheckOf tables input out          the output for the whole input
use Rattle.std.specs.Prelude.{◌≡◌, ◌≢◌, ℕ, ◌+◌, ◌⊎◌, Bool, true, false, List, [], ◌∷◌, ◌++◌, length, take, drop, slice_get, Some, codes}
use Rattle.meta_lists.specs.First.{IsFirst}
use Rattle.meta_gen.specs.WholeTables.{WholeTables}
use Rattle.meta_table_reader.specs.Readable.{Reads, refused_line}
use Rattle.meta_lines.specs.Lines.{lines_of}
use Rattle.meta_query_lines.specs.Answer.{IsTableReply, AreWrittenAnswers}

-- ---- the input is cut

-- the line before the queries, with its LF
abbrev pub mark : List ℕ
mark = codes "// Queries." ++ 10 ∷ []

-- a line begins at the place: it is the first, or LF stands before it
abbrev pub BeginsLine : List ℕ → ℕ → Type 0
BeginsLine input at = (at ≡ 0) ⊎ ((before : ℕ) × (at ≡ before + 1) × (slice_get input before ≡ Some 10))

-- a line that is the mark stands at the place
pub record IsMarkAt (input : List ℕ) (at : ℕ) : Type 0 where
  pub begins : BeginsLine input at
  pub after : List ℕ
  pub is : drop at input ≡ mark ++ after

-- the text ends before the first mark, and the queries are what stands after it
pub record IsCutAt (input : List ℕ) (at : ℕ) (text queries : List ℕ) : Type 0 where
  pub first : IsFirst (IsMarkAt input) at
  pub text_is : text ≡ take at input
  pub queries_are : queries ≡ drop (at + length mark) input

-- there is no mark: all is text, and there are no queries
pub record IsUncut (input text queries : List ℕ) : Type 0 where
  pub no_mark : (at : ℕ) → IsMarkAt input at → ⊥
  pub text_is : text ≡ input
  pub queries_are : queries ≡ []

-- the input is this text and these queries
abbrev pub IsCut : List ℕ → List ℕ → List ℕ → Type 0
IsCut input text queries = ((at : ℕ) × IsCutAt input at text queries) ⊎ IsUncut input text queries

-- ---- what is answered

-- the line on tables that were read: they are those of the declarations, or others
abbrev pub sameness_line : Bool → List ℕ
sameness_line true = codes "same" ++ 10 ∷ []
sameness_line false = codes "different" ++ 10 ∷ []

-- the line, and after it what the tables answer to the lines of the queries, by the tables alone
pub record IsTold (line : List ℕ) (t : WholeTables) (queries out : List ℕ) : Type 0 where
  pub answers : List ℕ
  pub are_answers : AreWrittenAnswers (IsTableReply t) (lines_of queries) answers
  pub is : out ≡ line ++ answers

-- the text reads as other tables, and these answer
pub record AreOthersTold (tables : WholeTables) (text queries out : List ℕ) : Type 0 where
  pub read : WholeTables
  pub reads : Reads text read
  pub others : read ≢ tables
  pub told : IsTold (sameness_line false) read queries out

-- the text reads as no tables, and that alone is said
pub record IsNoTables (text out : List ℕ) : Type 0 where
  pub reads_none : (t : WholeTables) → Reads text t → ⊥
  pub is : out ≡ refused_line

-- `same` and the answers if the text reads as the tables; `different` and the answers of the tables that were read if it reads as others;
-- `refused` alone if it reads as no tables
abbrev pub IsAnswerBy : WholeTables → List ℕ → List ℕ → List ℕ → Type 0
IsAnswerBy tables text queries out = (Reads text tables × IsTold (sameness_line true) tables queries out)
    ⊎ (AreOthersTold tables text queries out ⊎ IsNoTables text out)

-- the output for an input: the answer to its text and its queries
pub record IsRecheckOf (tables : WholeTables) (input out : List ℕ) : Type 0 where
  pub text : List ℕ
  pub queries : List ℕ
  pub cut : IsCut input text queries
  pub answer : IsAnswerBy tables text queries out
