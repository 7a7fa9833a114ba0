-- What is written by tables is what the declarations mean.
use Rattle.std.proofs.Common.{◌↔◌, ℕ, Bool, true, false, List, [], ◌∷◌, take, sym, subst}
use Rattle.meta_lines.specs.Lines.{lines_of}
use Rattle.meta_inst.specs.InstructionSet.{InstructionSet}
use Rattle.meta_inst.specs.Tables.{TableContents}
use Rattle.meta_build.specs.AllDeclared.{Declared}
use Rattle.meta_gen.specs.Reply.{AllowedReply, AcceptedReply}
use Rattle.meta_verify.specs.Statement.{defined_by}
use Rattle.meta_verify.specs.Environment.{Environment, nothing_defined, with_values, HasNamedTypes}
use Rattle.meta_verify.specs.Verdict.{IsVerdict}
use Rattle.meta_verify.specs.Why.{IsExplainedVerdict, explained_verdicts}
use Rattle.meta_verify.proofs.StatementLemmas.{one_statement}
use Rattle.meta_verify.proofs.Meaning.{all_named, results_typed, nothing_named}
use Rattle.meta_asm.specs.Manners.{IsMannerIn, IsMannerDeclared}
use Rattle.meta_asm.specs.Reading.{IsShortIn, IsShortDeclared}
use Rattle.meta_asm.specs.Listing.{filled, AreShort, IsFirstUnread, IsShortened, IsSpelled}
use Rattle.meta_asm.specs.Form.{written_in}
use Rattle.meta_asm.specs.Why.{IsExplainedShort, explained_in}
use Rattle.meta_asm.specs.declared.form.Form.TheVariants.{Short}

module _ (d : InstructionSet) (tables : TableContents) (means : (env : Environment) → HasNamedTypes env → (line text : List ℕ)
    → (IsShortIn tables env line text ↔ IsShortDeclared d env line text)) where
  all_mean : (env env' : Environment) (lines texts : List (List ℕ)) → HasNamedTypes env
      → AreShort (AllowedReply tables) (IsMannerIn tables) env lines texts env'
      → AreShort (AcceptedReply d) (IsMannerDeclared d) env lines texts env' × HasNamedTypes env'
  all_mean env env' [] [] named e = (e, subst HasNamedTypes (sym e) named)
  all_mean env env' [] (t ∷ ts) named h = absurd h
  all_mean env env' (l ∷ ls) [] named h = absurd h
  all_mean env env' (l ∷ ls) (t ∷ ts) named (short, rest) =
      let meant = (means env named l t).0 short in
      let same = one_statement l short.statement meant.statement short.right.0 meant.right.0 in
      let others = all_mean (with_values env (defined_by short.statement)) env' ls ts
      (all_named env (defined_by short.statement) named (results_typed short.statement short.right.0.can)) rest in (
        (meant, subst (λ s. AreShort (AcceptedReply d) (IsMannerDeclared d) (with_values env (defined_by s)) ls ts env') same others.0),
        others.1,
      )

  pub unread_means : (texts : List (List ℕ)) (n : ℕ) → IsFirstUnread (AllowedReply tables) (IsMannerIn tables) texts n
      → IsFirstUnread (AcceptedReply d) (IsMannerDeclared d) texts n
  unread_means texts n h =
      let before = all_mean nothing_defined h.before h.lines (filled (take n texts)) nothing_named h.reads in
      record {
        text = h.text;
        at = h.at;
        some = h.some;
        lines = h.lines;
        before = h.before;
        reads = before.0;
        unread = λ line short. h.unread line ((means h.before before.1 line h.text).1 short);
      }

  pub spelled_means : (input : List ℕ) (is_rejection : Bool) (text : List ℕ)
      → IsSpelled (AllowedReply tables) (IsMannerIn tables) input is_rejection text
      → IsSpelled (AcceptedReply d) (IsMannerDeclared d) input is_rejection text
  spelled_means input false text (lines, (env, reads), is) =
      (lines, (env, (all_mean nothing_defined env lines (filled (lines_of input)) nothing_named reads).0), is)
  spelled_means input true text (n, first, is) = (n, unread_means (lines_of input) n first, is)

  module _ (verdict_means : (input : List ℕ) (is_rejection : Bool) (text : List ℕ)
      → IsVerdict (AllowedReply tables) input is_rejection text → IsVerdict (AcceptedReply d) input is_rejection text) where
    pub shortened_means : (input : List ℕ) (is_rejection : Bool) (text : List ℕ)
        → IsShortened (AllowedReply tables) (IsMannerIn tables) input is_rejection text
        → IsShortened (AcceptedReply d) (IsMannerDeclared d) input is_rejection text
    shortened_means input false text (texts, (env, short), is) =
        (texts, (env, (all_mean nothing_defined env (filled (lines_of input)) texts nothing_named short).0), is)
    shortened_means input true text h = verdict_means input true text h

-- the same with what is told of a refusal
pub explained_short_means : (d : Declared) (tables : TableContents) → ((input : List ℕ) (text : List ℕ)
    → IsShortened (AllowedReply tables) (IsMannerIn tables) input false text → written_in Short d input false text)
    → ((input : List ℕ) (text : List ℕ) → IsExplainedVerdict (AllowedReply tables) tables input true text
    → explained_verdicts d input true text) → (input : List ℕ) (is_rejection : Bool) (text : List ℕ)
    → IsExplainedShort (AllowedReply tables) (IsMannerIn tables) tables input is_rejection text → explained_in Short d input is_rejection text
explained_short_means d tables short told input false text h = short input text h
explained_short_means d tables short told input true text h = told input text h
