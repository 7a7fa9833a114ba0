use Rattle.std.proofs.Common.{◌≡◌, ◌+◌, Bool, true, false, List, ℕ, refl}
use Rattle.meta_typevar.specs.Registry.{HoldTypeSets}
use Rattle.meta_build.specs.AllDeclared.{Declared, AreValid}
use Rattle.meta_gen.specs.Reply.{AllowedReply, AcceptedReply}
use Rattle.meta_verify.specs.Verdict.{wrong_text}
use Rattle.meta_asm.specs.Manners.{IsMannerIn, IsMannerDeclared}
use Rattle.meta_asm.specs.Form.{written_in}
use Rattle.meta_asm.specs.Why.{explained_in}
use Rattle.meta_asm.specs.declared.form.Form.{Form}
use Rattle.meta_asm.specs.declared.form.Form.TheVariants.{Short, Explicit}
use Rattle.meta_asm.proofs.OneOutput.{one_shortened, one_spelled}
use Rattle.meta_asm.proofs.laws.one_output_of_a_form.Goals as goal

pub returns : goal.returns
returns c = record {
  short = λ tables. one_shortened (AllowedReply tables) (IsMannerIn tables) c.one_statement.ensures
      (c.one_short_form.ensures.tables tables) (c.one_answer.ensures.tables tables) (c.one_verdict.ensures.tables tables);
  explicit = λ tables well. one_spelled (AllowedReply tables) (IsMannerIn tables) c.one_statement.ensures
      (c.one_line_reads.ensures.tables tables well);
  declared = by_form;
  explained = told_by_form;
}
  where
    by_form : (d : Declared) (form : Form) (input : List ℕ) (a b : Bool) (s t : List ℕ) → AreValid d → written_in form d input a s
        → written_in form d input b t → (a ≡ b) × (s ≡ t)
    by_form d Short input a b s t valid h g =
        one_shortened (AcceptedReply d.set) (IsMannerDeclared d.set) c.one_statement.ensures
        (c.one_short_form.ensures.declared d.set valid.set) (c.one_answer.ensures.declared d.set valid.set)
        (λ input a b s t h g. c.one_verdict.ensures.declared d input a b s t valid h g) input a b s t h g
    by_form d Explicit input a b s t valid h g =
        one_spelled (AcceptedReply d.set) (IsMannerDeclared d.set) c.one_statement.ensures
        (c.one_line_reads.ensures.declared d.set valid.set) input a b s t h g

    told_by_form : (d : Declared) (form : Form) (input : List ℕ) (a b : Bool) (s t : List ℕ) → AreValid d → HoldTypeSets d.set.vars
        → explained_in form d input a s → explained_in form d input b t → (a ≡ b) × (s ≡ t)
    told_by_form d Short input false false s t valid hold h g = by_form d Short input false false s t valid h g
    told_by_form d Short input false true s t valid hold h (tables, made, (n, reason, first, more, told, is)) =
        let both = by_form d Short input false true s (wrong_text (n + 1) reason) valid h (n, reason, first, refl) in
        let no : false ≡ true = both.0 in
        absurd (cc)
    told_by_form d Short input true false s t valid hold (tables, made, (n, reason, first, more, told, is)) g =
        let both = by_form d Short input true false (wrong_text (n + 1) reason) t valid (n, reason, first, refl) g in
        let no : true ≡ false = both.0 in
        absurd (cc)
    told_by_form d Short input true true s t valid hold h g =
        c.one_verdict.ensures.explained_declared d input true true s t valid hold h g
    told_by_form d Explicit input a b s t valid hold h g = by_form d Explicit input a b s t valid h g
