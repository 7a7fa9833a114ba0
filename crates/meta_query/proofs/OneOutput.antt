-- A command answers an input with at most one output.
use Rattle.std.proofs.Common.{◌≡◌, inl, inr, true, false, ℕ, List, [], ◌∷◌, ◌++◌, sym, ap, ◌∙◌, subst}
use Rattle.meta_typevar.specs.Registry.{HoldTypeSets}
use Rattle.meta_inst.specs.InstructionSet.{InstructionSet}
use Rattle.meta_inst.specs.Tables.{TableContents}
use Rattle.meta_build.specs.AllDeclared.{Declared, AreValid}
use Rattle.meta_build.specs.BuiltDeclarations.{BuiltDeclarations, AreBuilt}
use Rattle.meta_gen.specs.WholeTables.{WholeTables, AreWholeTablesOf}
use Rattle.meta_query.specs.Synth.{IsSynth}
use Rattle.meta_query.specs.Summary.{IsSummaryOf}
use Rattle.meta_table_reader.specs.Readable.{Reads}
use Rattle.meta_table_text.specs.TableText.{table_text}
use Rattle.meta_table_text.specs.declared.version.Version.TheVariants.{Three}
use Rattle.meta_lines.specs.Lines.{lines_of}
use Rattle.meta_query_lines.specs.Answer.{IsOutput}
use Rattle.meta_query_lines.proofs.TableReplies.{same_answers}
use Rattle.meta_query.specs.declared.command.Command.{Command}
use Rattle.meta_query.specs.declared.command.Command.TheVariants.{Query, Recheck, Tables, Types, Settings, Instructions, Builder, Synth}
use Rattle.meta_query.specs.Recheck.{sameness_line, IsTold, IsAnswerBy, IsRecheckOf}
use Rattle.meta_query.specs.Synthesis.{IsSynthOutput}
use Rattle.meta_query.specs.Run.{IsBuiltText, IsOutputOf}
use Rattle.meta_query.proofs.Marks.{same_cut}

-- ---- `recheck`, if a text reads as at most one

module _ (one_read : (text : List ℕ) (t u : WholeTables) → Reads text t → Reads text u → t ≡ u) where
  one_told : (line : List ℕ) (t : WholeTables) (queries a b : List ℕ) → IsTold line t queries a → IsTold line t queries b → a ≡ b
  one_told line t queries a b h g = h.is
      ∙ ap (λ x. line ++ x) (same_answers t (lines_of queries) h.answers g.answers h.are_answers g.are_answers) ∙ sym g.is

  one_answer_by : (tables : WholeTables) (text queries a b : List ℕ) → IsAnswerBy tables text queries a
      → IsAnswerBy tables text queries b → a ≡ b
  one_answer_by tables text queries a b (inl (reads, told)) (inl (read, tells)) =
      one_told (sameness_line true) tables queries a b told tells
  one_answer_by tables text queries a b (inl (reads, told)) (inr (inl g)) = absurd (g.others (one_read text g.read tables g.reads reads))
  one_answer_by tables text queries a b (inl (reads, told)) (inr (inr g)) = absurd (g.reads_none tables reads)
  one_answer_by tables text queries a b (inr (inl h)) (inl (reads, told)) = absurd (h.others (one_read text h.read tables h.reads reads))
  one_answer_by tables text queries a b (inr (inl h)) (inr (inl g)) =
      one_told (sameness_line false) g.read queries a b
      (subst (λ t. IsTold (sameness_line false) t queries a) (one_read text h.read g.read h.reads g.reads) h.told) g.told
  one_answer_by tables text queries a b (inr (inl h)) (inr (inr g)) = absurd (g.reads_none h.read h.reads)
  one_answer_by tables text queries a b (inr (inr h)) (inl (reads, told)) = absurd (h.reads_none tables reads)
  one_answer_by tables text queries a b (inr (inr h)) (inr (inl g)) = absurd (h.reads_none g.read g.reads)
  one_answer_by tables text queries a b (inr (inr h)) (inr (inr g)) = h.is ∙ sym g.is

  pub one_recheck : (tables : WholeTables) (input a b : List ℕ) → IsRecheckOf tables input a → IsRecheckOf tables input b → a ≡ b
  one_recheck tables input a b h g =
      let cut = same_cut input h.text h.queries g.text g.queries h.cut g.cut in
      one_answer_by tables g.text g.queries a b
      (subst (λ t. IsAnswerBy tables t g.queries a) cut.0 (subst (λ q. IsAnswerBy tables h.text q a) cut.1 h.answer)) g.answer

-- ---- `synth`, if a number has one list of declarations, whose variables have type sets, and these have one table and one line

module _ (one_tables : (d : Declared) (t u : WholeTables) → HoldTypeSets d.set.vars → AreWholeTablesOf d t
    → AreWholeTablesOf d u → t ≡ u) where
  pub one_synth_output : ((n : ℕ) (d : Declared) → IsSynth n d → HoldTypeSets d.set.vars)
      → ((n : ℕ) (d e : Declared) → IsSynth n d → IsSynth n e → d ≡ e)
      → ((n : ℕ) (d : InstructionSet) (t : TableContents) (a b : List ℕ) → IsSummaryOf n d t a → IsSummaryOf n d t b → a ≡ b)
      → (n : ℕ) (a b : List ℕ) → IsSynthOutput n a → IsSynthOutput n b → a ≡ b
  one_synth_output sets one_synth one_summary n a b h g =
      let same = one_synth n h.declared g.declared h.is_synth g.is_synth in
      let tables = one_tables g.declared h.tables g.tables (sets n g.declared g.is_synth)
      (subst (λ d. AreWholeTablesOf d h.tables) same h.are_tables) g.are_tables in
      let summary = subst (λ (t : WholeTables). IsSummaryOf n g.declared.set t.opcodes h.line) tables
      (subst (λ (d : Declared). IsSummaryOf n d.set h.tables.opcodes h.line) same h.is_summary) in
      h.is ∙ ap (λ l. l ++ 10 ∷ []) (one_summary n g.declared.set g.tables.opcodes h.line g.line summary g.is_summary) ∙ sym g.is

  -- ---- each command, if besides there is one of what is built of declarations

  module _ (one_query : (d : Declared) (input a b : List ℕ) → AreValid d → IsOutput d input a → IsOutput d input b → a ≡ b)
      (one_recheck_of : (t : WholeTables) (input a b : List ℕ) → IsRecheckOf t input a → IsRecheckOf t input b → a ≡ b)
      (one_built : (b c : BuiltDeclarations) → AreBuilt b → AreBuilt c → b.declared ≡ c.declared → b ≡ c)
      (one_line : (n : ℕ) (a b : List ℕ) → IsSynthOutput n a → IsSynthOutput n b → a ≡ b) where
    one_built_text : (text : BuiltDeclarations → List ℕ) (d : Declared) (a b : List ℕ) → IsBuiltText text d a → IsBuiltText text d b → a ≡ b
    one_built_text text d a b (x, built, of, is) (y, other, too, tells) = is
        ∙ ap text (one_built x y built other (of ∙ sym too)) ∙ sym tells

    pub same_output : (d : Declared) (c : Command) (input a b : List ℕ) → AreValid d → HoldTypeSets d.set.vars
        → IsOutputOf c d input a → IsOutputOf c d input b → a ≡ b
    same_output d Query input a b valid sets h g = one_query d input a b valid h g
    same_output d Recheck input a b valid sets (t, of, is) (u, too, tells) =
        one_recheck_of u input a b (subst (λ x. IsRecheckOf x input a) (one_tables d t u sets of too) is) tells
    same_output d Tables input a b valid sets (none, t, of, is) (nothing, u, too, tells) = is
        ∙ ap (table_text Three) (one_tables d t u sets of too) ∙ sym tells
    same_output d Types input a b valid sets h g = h.1 ∙ sym g.1
    same_output d Settings input a b valid sets h g = h.1 ∙ sym g.1
    same_output d Instructions input a b valid sets h g = one_built_text _ d a b h.1 g.1
    same_output d Builder input a b valid sets h g = one_built_text _ d a b h.1 g.1
    same_output d (Synth n) input a b valid sets h g = one_line n a b h.1 g.1
