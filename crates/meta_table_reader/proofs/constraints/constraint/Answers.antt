use Rattle.std.proofs.Common.{◌++◌, codes, slice_index, refl, sym, ap, ◌∙◌, subst}
use Rattle.std.proofs.lemmas.Result.{IfOk-weaker}
use Rattle.meta_inst.specs.Tables.{FreeOf}
use Rattle.meta_table_text.specs.ConstraintText.{constraint_text, constraint_line}
use Rattle.meta_table_reader.specs.Shown.{IsShownConstraint}
use Rattle.meta_table_reader.proofs.Controls.{is_concrete, is_free, is_of_control, word_lacks}
use Rattle.meta_table_reader.proofs.ConstraintLines.{free_opened, form_opened}
use Rattle.meta_table_reader.proofs.constraints.constraint.Goals as goal

pub returns-then-form-eq67 : goal.returns-then-form-eq67
returns-then-form-eq67 c =
    IfOk-weaker c.concrete.result _ _
    (λ k is n rest shown e.
    let (m, same) = is_concrete n rest (sym (ap (λ t. slice_index t 23) e) ∙ sym c.byte_at-form.ensures ∙ c.if-form-eq67.true) in
    let (number, left) = is m rest (subst IsShownConstraint same shown) (e ∙ ap (λ n. constraint_line n ++ rest) same) in
    (number ∙ sym same, left))
    c.concrete.ensures

pub returns-then-form-eq70 : goal.returns-then-form-eq70
returns-then-form-eq70 c = λ n rest shown e.
    let (j, same) = is_free n rest (sym (ap (λ t. slice_index t 23) e) ∙ sym c.byte_at-form.ensures ∙ c.if-form-eq70.true) in
    let (set, left) = c.number_u16-set.ensures.item j (codes "),\n" ++ rest) (subst IsShownConstraint same shown) refl refl (e
    ∙ ap (λ n. constraint_line n ++ rest) same ∙ free_opened j rest) in
    (ap FreeOf set ∙ sym same, c.pass.ensures.item rest left)

pub returns : goal.returns
returns c = λ n rest shown e.
    let form = c.byte_at-form.ensures ∙ ap (λ t. slice_index t 23) e in
    let is = is_of_control n rest (λ f. c.if-form-eq67.false (form ∙ f)) (λ f. c.if-form-eq70.false (form ∙ f)) in
    let (word, left) = c.until-word.ensures.item (constraint_text n) (codes ",\n" ++ rest) (word_lacks n is) refl
    (e ∙ form_opened n rest) in
    (c.constraint_named.ensures n is word, c.pass-2.ensures.item rest left)
